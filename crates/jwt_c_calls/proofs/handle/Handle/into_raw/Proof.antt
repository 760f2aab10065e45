-- `into_raw` takes the handle apart, and makes of its pointer what is kept, unless it is null.
use Rattle.std.proofs.Common.{◌≡◌, ℕ, List, [], ◌∷◌, ◌++◌, refl, sym, ap, ◌∙◌, subst, lit<, Option, Some, None}
use mir.Val.{Val, vptr, vnull, vcons, vnil, has_ty}
use base.Logic.{SProp, ent, emp, id⊢, via, fst∗, snd∗, never, guard, guard_i}
use seplogic.Ra.Ura.{Ura}
use prog.Wp.{WpFn}
use types.Logic.{Logic, sem}
use types.Kit.{Item, Goal, Seq, ‵, raw, ◌⊛◌, at_ret, given, ◌$◌, ◌∵◌, !, qed, by, move, keep, drop, split}
use types.Kit.{fsplit, fjoin, fpick, suffices, use0, use1, learn}
use types.Run.{stop, fld, lit, of_opd, bin, no_more, and_then, first, branches, exec, returns, enter}
use types.ByLocal.{alloc_all, pass_all, free_all, look_at, get, get_in, sets, sets_last, env}
use types.Part.{agg, sub, whole}
use types.Match.{live}
use contract.Monad.{fact, fact_i, fact_use}
use contract.Running.{tables}
use denote.Exit.{yes}
use denote.RattleType.{RattleType, owns}
use denote.Memory.{lone}
use denote.Signature.{types_at, type_at, plain}
use denote.RawPtr.{Ptr, block_ptr, null_ptr, ptr_val, tests_null, Testable, lies_at, in_a_block}
use denote.Steps.{nothing}
use denote.Param.{layout}
use denote.Triple.Entry.{alive}
use denote.Triple.Walked.{Stays, stay_dropped, walk_of, Goes-dropped}
use mir.Raw.{raw as bare}
use base.Fraction.{full_share}
use Rattle.core.proofs.alloc.Shapes.{after}
use Rattle.core.proofs.cell.Inside.{Good}
use Rattle.core.proofs.option.Made.{Some-of, none_of}
use Rattle.std.proofs.alloc.Global.TheLaws as heap_laws
use Rattle.std.proofs.GlobalToken.{dealloc_token-Testable}
use Rattle.std.proofs.raw_atomic.Walks.{proved_at, leaves}
use Rattle.std.specs.declared.alloc.Global.{Global}
use Rattle.std.specs.contracts.impls.GlobalAllocator.TheImpl.{ghosts}
use Rattle.std_alloc.proofs.ResultValues.{and_tt}
use Rattle.jwt_c_calls.specs.Owned.{handle_owns}
use Rattle.jwt_c_calls.specs.contracts.handle.Handle.into_raw.{ended, clauses}
use Rattle.jwt_c_calls.specs.contracts.handle.Handle.into_raw.Key.{name as #self}
use Rattle.jwt_c_calls.proofs.handle.Handle.into_raw.Statement.{statement}
use Rattle.jwt_c_calls.proofs.handle.Handle.into_raw.Code as code
use Rattle.jwt_c_calls.proofs.Values.{both, both_tt, KeptRow, kept_good, kept_in}
use Rattle.jwt_c_calls.proofs.HandleValues.{Z, R, Hd, handle_out}

module _ {M : Type 1} {𝓤 : Ura M} (𝓛 : Logic 𝓤) where
  -- a box that may be freed may be compared with null
  tested : (a : Global) (p : Ptr) (x : R.Denot) → ent 𝓤 (sem 𝓛 (handle_owns R a p (Some x)))
      (guard 𝓤 (Testable p) (sem 𝓛 (handle_owns R a p (Some x))))
  tested a p x =
      fact_use 𝓤 (Testable p) (via 𝓤 _
      (snd∗ 𝓤 (sem 𝓛 (lies_at R full_share p x)) (sem 𝓛 (ghosts.dealloc_token a (bare (lone R.mir)) p)))
      (dealloc_token-Testable 𝓛 a (bare (lone R.mir)) p))
      (guard_i 𝓤 (Testable p) (sem 𝓛 (handle_owns R a p (Some x))))

module _ {M : Type 1} {𝓤 : Ura M} {𝓛 : Logic 𝓤} {K : Type 0} {Γ : List (Item 𝓤)} {G : Goal 𝓤 𝓛.H} where
  either : K → (a : Global) (p : Ptr) (x : Option R.Denot) → (p ≡ null_ptr → x ≡ None → Seq K 𝓛 Γ G)
      → ((b o : ℕ) (y : R.Denot) → p ≡ block_ptr b o → x ≡ Some y → Testable (block_ptr b o)
      → Seq K 𝓛 (‵ (handle_owns R a (block_ptr b o) (Some y)) ∷ Γ) G)
      → Seq K 𝓛 (‵ (handle_owns R a p x) ∷ Γ) G
  either t a p None none one = fpick t (λ e. drop t $ none e refl)
  either t a p (Some y) none one =
      in_a_block t p (λ q. handle_owns R a q (Some y))
      (fst∗ 𝓤 (never 𝓤) (sem 𝓛 (ghosts.dealloc_token a (bare (lone R.mir)) null_ptr))) (λ b o e.
      use1 𝓛 (given (Testable (block_ptr b o)) (‵ (handle_owns R a (block_ptr b o) (Some y))))
      (tested 𝓛 a (block_ptr b o) y) $ learn t (λ u. one b o y e refl u))

pub into_raw_spec : {M : Type 1} → statement M
into_raw_spec 𝓤 𝓛 𝓜 𝓡 wired =
    let H = 𝓛.H in let 𝓣 = tables 𝓤 H 𝓜 𝓡 𝓡.env in let LZ = heap_laws.the_row_laws in let c =
    clauses 𝓛 𝓜.mem 𝓡.returns in let fn = code.function in let Lr : RattleType = KeptRow R Z LZ ghosts in
    let hs : Stays ended.signature.params ended.kept = (stay_dropped (plain (λ _. Hd)) yes, tt) in
    proved_at 𝓛 ended hs c 𝓜 𝓡 (Goes-dropped 𝓛 0 (plain (λ _. Hd)) yes (λ κs x f. refl), tt) #self fn
    (code.unfolded 𝓤 H 𝓜 𝓡 wired) (λ z are.
    let κs = z.0.0 in let qs = z.0.1 in let Post : Val → SProp 𝓤 = (walk_of 𝓛 ended hs c).post z in let Run : List Val
    → SProp 𝓤 = λ ws. WpFn 𝓤 H 𝓣.C 𝓣.Λ fn ws Post in let Out : RattleType = type_at ended.signature.result κs in
    let d : Hd.Denot = z.0.3.0 in let a = d.alloc in let null_fits : Good (mir.Syntax.ty_ptr) vnull =
    (tt, record { fits = lit< tt }) in
    qed 𝓛 ((raw (alive 𝓛 ended.signature κs qs) ⊛ ‵ (owns (types_at ended.signature.params κs) z.0.3 z.0.4))
    ∷ raw ((c κs z.0.3).requires z.1) ∷ []) ∵ split ! $ move ! (1 ∷ []) $ fsplit ! $ handle_out ! d z.0.4.0 (λ h ws fits.
    keep ! (0 ∷ 1 ∷ 3 ∷ []) $ either ! a d.at d.held
    (λ is has. let w : Val = both vnull h in let eq : z.0.4.0 ≡ w ∷ [] = ws ∙ ap (λ (p : Ptr). both (ptr_val p) h ∷ []) is in
    let good : Good (layout Hd) w = (
      both_tt (has_ty mir.Syntax.ty_ptr vnull) (has_ty (layout Z) h) null_fits.0 fits.0,
      (null_fits.1, (fits.1, tt)),
    ) in
    suffices ! (Run (w ∷ [])) (subst (λ (us : List Val). ent 𝓤 (Run (w ∷ [])) (Run us)) (sym (λ i. eq i ++ []))
    (id⊢ 𝓤 (Run (w ∷ [])))) $
    enter ! 𝓣.C 𝓣.Λ fn (w ∷ []) Post $ alloc_all ! (λ l. pass_all ! refl (good, tt) $ let Ev = env fn.locals l in
    sets ! (of_opd ! (get_in ! (fld ! refl (stop !)) (sub ! 0 refl (whole !)))) refl null_fits $
    sets ! (of_opd ! (get_in ! (fld ! refl (stop !)) (sub ! 1 refl (whole !)))) refl fits $
    sets ! (bin ! (get ! refl) (lit ! tt) tt) refl (tt, tt) $ first ! $ branches ! (get ! refl)
    (λ _. sets_last ! (agg ! (and_then ! (lit ! tt) (no_more !))) refl (tt, (record { fits = lit< tt }, tt)) $
    exec ! 𝓣.C 𝓣.Λ Ev (after 4 fn.body) (at_ret Ev Post) $
    sets ! (of_opd ! (get ! refl)) refl (tt, (record { fits = lit< tt }, tt)) $
    use0 𝓛 (‵ (Out.own_val None (live 0 vnil ∷ []))) (none_of 𝓛 Lr) $
    use0 𝓛 (raw (fact 𝓤 (d.held ≡ None))) (fact_i 𝓤 (d.held ≡ None) (emp 𝓤) has) $ nothing ! $ nothing ! $ fjoin ! $
    returns ! (look_at ! 0 refl) $ free_all ! refl $ keep ! (4 ∷ 0 ∷ 2 ∷ 1 ∷ []) $
    by ! (leaves 𝓛 ended hs c z (live 0 vnil) None (tt, tt) (tt, tt))) (λ wrong. absurd wrong)))
    (λ b o x is has t. let w : Val = both (vptr b o) h in let eq : z.0.4.0 ≡ w ∷ [] = ws
    ∙ ap (λ (p : Ptr). both (ptr_val p) h ∷ []) is in
    let typed = kept_good R Z LZ ghosts b o h fits in let v₁ : Val = live 1 (vcons w vnil) in let k : Lr.Denot =
    record { at = block_ptr b o; alloc = a; value = x } in
    let good : Good (layout Out) v₁ = (and_tt _ typed.0, (record { fits = lit< tt }, (typed.1, tt))) in
    suffices ! (Run (w ∷ [])) (subst (λ (us : List Val). ent 𝓤 (Run (w ∷ [])) (Run us)) (sym (λ i. eq i ++ []))
    (id⊢ 𝓤 (Run (w ∷ [])))) $
    enter ! 𝓣.C 𝓣.Λ fn (w ∷ []) Post $ alloc_all ! (λ l. pass_all ! refl (typed, tt) $ let Ev = env fn.locals l in
    sets ! (of_opd ! (get_in ! (fld ! refl (stop !)) (sub ! 0 refl (whole !)))) refl (tt, tt) $
    sets ! (of_opd ! (get_in ! (fld ! refl (stop !)) (sub ! 1 refl (whole !)))) refl fits $
    sets ! (bin ! (get ! refl) (lit ! tt) (tests_null (block_ptr b o) t)) refl (tt, tt) $ first ! $
    branches ! (get ! refl) (λ wrong. absurd wrong) (λ _.
    sets ! (of_opd ! (get ! refl)) refl (tt, tt) $
    sets ! (agg ! (and_then ! (get ! refl) (and_then ! (get ! refl) (no_more !)))) refl typed $
    sets_last ! (agg ! (and_then ! (lit ! tt) (and_then ! (get ! refl) (no_more !)))) refl good $
    exec ! 𝓣.C 𝓣.Λ Ev (after 4 fn.body) (at_ret Ev Post) $ sets ! (of_opd ! (get ! refl)) refl good $
    kept_in R Z LZ ghosts ! b o h a x $
    use1 𝓛 (‵ (Out.own_val (Some k) (v₁ ∷ []))) (Some-of 𝓛 Lr k w) $
    use0 𝓛 (raw (fact 𝓤 (d.held ≡ Some x))) (fact_i 𝓤 (d.held ≡ Some x) (emp 𝓤) has) $ nothing ! $ nothing ! $ fjoin ! $
    returns ! (look_at ! 0 refl) $ free_all ! refl $ keep ! (3 ∷ 0 ∷ 2 ∷ 1 ∷ []) $
    by ! (leaves 𝓛 ended hs c z v₁ (Some k) (tt, tt) (tt, tt)))))))
