-- The times at which a token is accepted, by the tests of any order.
use Rattle.std.specs.Prelude.{◌↔◌, ℕ, ◌≤◌, List, Option, Result, MatchOption, MatchResult}
use Rattle.jwt_base.specs.KindOf.{IsMemory}
use Rattle.jwt_base.specs.declared.errors.Error.{Error}
use Rattle.jwt_validation.specs.Moments.{end_of_time}
use Rattle.jwt_validation.specs.declared.interval.Moments.{Moments}
use Rattle.jsonwebtoken.specs.Order.{Passes}
use Rattle.jsonwebtoken.specs.Tests.{Call, Contents, Test, token_tests}

module _ {T : Type 0} (call : Call T) (order : List Test) where
  -- at this time some contents pass
  abbrev pub IsAcceptedAt : ℕ → Type 0
  IsAcceptedAt n = (t : Contents) × Passes (token_tests (record call { time = n })) order t

  -- some contents pass from the first time to the last, and at no other (RFC 7519 sections 4.1.4 and 4.1.5)
  pub record AreAcceptedMoments (m : Moments) : Type 0 where
    pub some : m.first ≤ m.last
    pub exactly : (n : ℕ) → n ≤ end_of_time → IsAcceptedAt n ↔ ((m.first ≤ n) × (n ≤ m.last))

  -- Some: the times at which some contents pass. None: no contents pass at any time.
  abbrev pub AreMoments : Option Moments → Type 0
  AreMoments m = MatchOption m ((n : ℕ) → n ≤ end_of_time → ¬ IsAcceptedAt n) AreAcceptedMoments

  -- the result of a call that looks for the times; it is refused only if memory ran out
  abbrev pub FindsMoments : Result (Option Moments) Error → Type 0
  FindsMoments r = MatchResult r AreMoments IsMemory
