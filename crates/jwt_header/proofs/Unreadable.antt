-- If a member cannot be read, no header can be read.
use Rattle.std.proofs.Common.{◌≡◌, Some, None, codes, true, true≢false, sym, ap, ◌∙◌}
use Rattle.serde_json.specs.Data.{Data, Members}
use Rattle.serde_json.specs.Find.{get, as_object}
use Rattle.serde_json.specs.Written.{members_have_float}
use Rattle.jwt_base.specs.Kind as kind
use Rattle.jwt_base.specs.KindOf.{RefusesAs}
use Rattle.jwt_base.specs.Members.{optional, texts, without}
use Rattle.jwt_base.specs.declared.errors.Error.{Error}
use Rattle.jwt_header.specs.Enc.{enc_from}
use Rattle.jwt_header.specs.Extras.{header_names}
use Rattle.jwt_header.specs.Header.{ReadsHeader}
use Rattle.jwt_header.specs.Zip.{zip_from}
use Rattle.jwt_header.specs.declared.header.Header.{Header}
use Rattle.jwt_base.proofs.Readings.{weaker}

-- no header can be read from the value
abbrev pub RefusesHeader : Data → Error → Type 0
RefusesHeader d = RefusesAs kind.Json ((h : Header) → ¬ ReadsHeader d h)

pub unreadable-crit : (d : Data) (e : Error) → RefusesAs kind.Json (optional texts (get (codes "crit") d) ≡ None) e
    → RefusesHeader d e
unreadable-crit d e = weaker _ _ e (λ none h r. absurd (cc (none, r.crit)))

pub unreadable-enc : (d : Data) (e : Error) → RefusesAs kind.Json (optional enc_from (get (codes "enc") d) ≡ None) e
    → RefusesHeader d e
unreadable-enc d e = weaker _ _ e (λ none h r. absurd (cc (none, r.enc)))

pub unreadable-zip : (d : Data) (e : Error) → RefusesAs kind.Json (optional zip_from (get (codes "zip") d) ≡ None) e
    → RefusesHeader d e
unreadable-zip d e = weaker _ _ e (λ none h r. absurd (cc (none, r.zip)))

-- a float among the rest
float_unread : (d : Data) (ms : Members) → as_object d ≡ Some ms → members_have_float (without header_names ms) ≡ true
    → (h : Header) → ReadsHeader d h → ⊥
float_unread d ms is float h r =
    let same : without header_names ms ≡ h.extras = cc (rw is at r.extras) in
    true≢false (sym float ∙ ap members_have_float same ∙ r.no_float)

pub unreadable-extras : (d : Data) (ms : Members) (e : Error) → as_object d ≡ Some ms
    → RefusesAs kind.Json (members_have_float (without header_names ms) ≡ true) e → RefusesHeader d e
unreadable-extras d ms e is = weaker _ _ e (float_unread d ms is)
