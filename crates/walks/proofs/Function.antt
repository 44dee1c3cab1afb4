-- A walked function: what it finds at entry and leaves at exit, what a call is handed and what comes back, and how a walk of
-- a function's code gives its contract. Every law is for all signatures.
use mathlib.Core.List.{[], ◌∷◌, List, ◌++◌}
use mathlib.Core.Path.{refl}
use Prim.Native.Nat.{ℕ, zero, suc, ◌<◌, ◌^◌}
use seplogic.Ra.Ura.{Ura}
use mir.Syntax.{Fn, named, w64}
use mir.Val.{Val, vint}
use base.Logic.{SProp, ent, sep, emp, id⊢, via, comm∗, mono_l, mono_r, emp∗}
use base.Fml.{Lft, flft, fres}
use prog.Routine.{Callee, Env}
use prog.Model.{Model}
use prog.Wp.{Calls, Loops, Tables, WpFn, Closed}
use types.Logic.{Logic, sem}
use contract.Lifetimes.{Lfts, Shares, AllOutlive, toks}
use contract.Monad.{fact}
use contract.Running.{Running, tables, tables_of}
use types.Kit.{Item, ‵, raw, ◌⊛◌, some, given, later, ⋆, push, pop, ⊢++, Sq, Seq, Step, ◌$◌, prop, Goal, Soaks, cut, use0, use1, await, pick, learn, split, fsplit, move, drop, qed, ◌∵◌, !, done}
use sound.WpLaws.{FmC, fm_of, WpFn-mono}
use denote.RattleType.{RattleType, RowLaws, Denots, Valss, owns, flat}
use denote.Laws.{Ises, Are}
use denote.Steps.{heard}
use denote.Ref.{Bor, MutBor}
use denote.Slice.{ShrSlice, MutSlice, shr_slice_vals, mut_slice_vals, shr_slice_copy, finally, coded_holeys, heres, res-finally}
use denote.Plain.{uint_Makes}
use denote.Builtin.{usize}
use denote.Signature.{Slot, Signature, types_at, type_at}
use denote.Triple.End.{Fins, lasts_of}
use denote.Triple.Entry.{Args, Res, Vals, on_entry}
use denote.Triple.Clauses.{Ended, Clauses, Lasts, lasts, at_exit, closing}
use denote.Triple.Spec.{Spec, Meets, triple_of}
use denote.Triple.Statement.{Triple}
use denote.Triple.Table.{entered}
use denote.Triple.Walked.{has_of, Fit, walk_of, ends_at, walked, walk_Meets}
use Rattle.walks.proofs.Parameters.{Handleds, AllCome, keeps_of, stays_of, spells_of, tells_of, goes_of, passed_as}

-- ---- Entry, and what a call is handed

module _ {M : Type 1} {𝓤 : Ura M} (𝓛 : Logic 𝓤) where
  -- What the parameters own, an entry for each.
  open 𝓛 use {H}

  abbrev pub owns_of : (Ts : List RattleType) → Denots Ts → Valss Ts → List (Item 𝓤)
  owns_of [] a vss = []
  owns_of (T ∷ Ts) a vss = ‵ (T.own_val a.0 vss.0) ∷ owns_of Ts a.1 vss.1

  owns_apart : (Ts : List RattleType) (a : Denots Ts) (vss : Valss Ts) → ent 𝓤 (sem 𝓛 (owns Ts a vss)) (⋆ 𝓛 (owns_of Ts a vss))
  owns_apart [] a vss = id⊢ 𝓤 (emp 𝓤)
  owns_apart (T ∷ Ts) a vss =
      via 𝓤 (sep 𝓤 (sem 𝓛 (T.own_val a.0 vss.0)) (⋆ 𝓛 (owns_of Ts a.1 vss.1))) (mono_r 𝓤 (sem 𝓛 (T.own_val a.0 vss.0)) (owns_apart Ts a.1 vss.1))
      (push 𝓛 (‵ (T.own_val a.0 vss.0)) (owns_of Ts a.1 vss.1))

  owns_together : (Ts : List RattleType) (a : Denots Ts) (vss : Valss Ts) → ent 𝓤 (⋆ 𝓛 (owns_of Ts a vss)) (sem 𝓛 (owns Ts a vss))
  owns_together [] a vss = id⊢ 𝓤 (emp 𝓤)
  owns_together (T ∷ Ts) a vss =
      via 𝓤 (sep 𝓤 (sem 𝓛 (T.own_val a.0 vss.0)) (⋆ 𝓛 (owns_of Ts a.1 vss.1))) (pop 𝓛 (‵ (T.own_val a.0 vss.0)) (owns_of Ts a.1 vss.1))
      (mono_r 𝓤 (sem 𝓛 (T.own_val a.0 vss.0)) (owns_together Ts a.1 vss.1))

  -- The tokens of all lifetimes, as one entry, and what the parameters own.
  abbrev pub found : (S : Signature) (κs : Lfts S.lifetimes) → Shares S.lifetimes → Args S κs → Vals S κs → List (Item 𝓤)
  found S κs qs a vss = raw (toks 𝓛 S.lifetimes κs qs) ∷ owns_of (types_at S.params κs) a vss

  -- A walk begins with these.
  pub enters : (S : Signature) (κs : Lfts S.lifetimes) (qs : Shares S.lifetimes) (a : Args S κs) (vss : Vals S κs) {P : SProp 𝓤}
      → Sq 𝓛 (found S κs qs a vss) (prop P) → ent 𝓤 (on_entry 𝓛 S κs qs a vss) P
  enters S κs qs a vss s =
      let T = toks 𝓛 S.lifetimes κs qs in
      via 𝓤 (sep 𝓤 T (⋆ 𝓛 (owns_of (types_at S.params κs) a vss))) (mono_r 𝓤 T (owns_apart (types_at S.params κs) a vss))
      (via 𝓤 (⋆ 𝓛 (found S κs qs a vss)) (push 𝓛 (raw T) (owns_of (types_at S.params κs) a vss)) s.prf)

  -- A call is handed these, and what it asks for beside them.
  pub hands : {K : Type 0} (S : Signature) (c : Spec 𝓤 S) (y : (triple_of 𝓛 S c).Ghost) → ent 𝓤 (emp 𝓤) ((c y.0.0 y.0.3).requires y.1) → {Γ : List (Item 𝓤)} {G : Goal 𝓤 H}
      → Step K 𝓛 (raw ((triple_of 𝓛 S c).pre y) ∷ Γ) G (found S y.0.0 y.0.1 y.0.3 y.0.4 ++ Γ) G
  hands S c y asked {Γ} =
      let T = toks 𝓛 S.lifetimes y.0.0 y.0.1 in
      let O = owns_of (types_at S.params y.0.0) y.0.3 y.0.4 in
      let P = on_entry 𝓛 S y.0.0 y.0.1 y.0.3 y.0.4 in
      cut (found S y.0.0 y.0.1 y.0.3 y.0.4) (raw ((triple_of 𝓛 S c).pre y) ∷ []) Γ
      (via 𝓤 (sep 𝓤 T (⋆ 𝓛 O)) (pop 𝓛 (raw T) O)
      (via 𝓤 P (mono_r 𝓤 T (owns_together (types_at S.params y.0.0) y.0.3 y.0.4))
      (via 𝓤 (sep 𝓤 (emp 𝓤) P) (emp∗ 𝓤 P) (via 𝓤 (sep 𝓤 P (emp 𝓤)) (comm∗ 𝓤 (emp 𝓤) P) (mono_r 𝓤 P asked)))))

  module _ {n : ℕ} (κs : Lfts n) where
    -- What a walk has of its parameters at exit, an entry for each.
    abbrev pub left_of : (ss : List (Slot n)) (ps : Handleds ss) (a : Denots (types_at ss κs)) → Fins κs ss (keeps_of ss) a → Valss (types_at ss κs) → List (Item 𝓤)
    left_of [] ps a ws vss = []
    left_of (s ∷ ss) ps a ws vss = ‵ (ps.0.stay.has κs a.0 ws.0 vss.0) ∷ left_of ss ps.1 a.1 ws.1 vss.1

    left_together : (ss : List (Slot n)) (ps : Handleds ss) (a : Denots (types_at ss κs)) (ws : Fins κs ss (keeps_of ss) a) (vss : Valss (types_at ss κs))
        → ent 𝓤 (⋆ 𝓛 (left_of ss ps a ws vss)) (sem 𝓛 (has_of κs ss (keeps_of ss) (stays_of ss ps) a ws vss))
    left_together [] ps a ws vss = id⊢ 𝓤 (emp 𝓤)
    left_together (s ∷ ss) ps a ws vss =
        let F = ps.0.stay.has κs a.0 ws.0 vss.0 in
        via 𝓤 (sep 𝓤 (sem 𝓛 F) (⋆ 𝓛 (left_of ss ps.1 a.1 ws.1 vss.1))) (pop 𝓛 (‵ F) (left_of ss ps.1 a.1 ws.1 vss.1))
        (mono_r 𝓤 (sem 𝓛 F) (left_together ss ps.1 a.1 ws.1 vss.1))

module _ {M : Type 1} {𝓤 : Ura M} (𝓛 : Logic 𝓤) where
  -- The tokens as one entry, and an entry for each.
  open 𝓛 use {A}

  abbrev pub tokens : (n : ℕ) → Lfts n → Shares n → List (Item 𝓤)
  tokens zero κs qs = []
  tokens (suc n) κs qs = ‵ (flft κs.0 qs.0) ∷ tokens n κs.1 qs.1

  tokens_part : (n : ℕ) (κs : Lfts n) (qs : Shares n) → ent 𝓤 (toks 𝓛 n κs qs) (⋆ 𝓛 (tokens n κs qs))
  tokens_part zero κs qs = id⊢ 𝓤 (emp 𝓤)
  tokens_part (suc n) κs qs =
      via 𝓤 (sep 𝓤 (A.lft κs.0 qs.0) (⋆ 𝓛 (tokens n κs.1 qs.1))) (mono_r 𝓤 (A.lft κs.0 qs.0) (tokens_part n κs.1 qs.1))
      (push 𝓛 (‵ (flft κs.0 qs.0)) (tokens n κs.1 qs.1))

  tokens_join : (n : ℕ) (κs : Lfts n) (qs : Shares n) → ent 𝓤 (⋆ 𝓛 (tokens n κs qs)) (toks 𝓛 n κs qs)
  tokens_join zero κs qs = id⊢ 𝓤 (emp 𝓤)
  tokens_join (suc n) κs qs =
      via 𝓤 (sep 𝓤 (A.lft κs.0 qs.0) (⋆ 𝓛 (tokens n κs.1 qs.1))) (pop 𝓛 (‵ (flft κs.0 qs.0)) (tokens n κs.1 qs.1))
      (mono_r 𝓤 (A.lft κs.0 qs.0) (tokens_join n κs.1 qs.1))

module _ {M : Type 1} {𝓤 : Ura M} (𝓛 : Logic 𝓤) {K : Type 0} {Γ : List (Item 𝓤)} {G : Goal 𝓤 𝓛.H} where
  -- A shared slice can be had twice: to be passed on, and to be kept.
  pub twice : (j : ℕ) (κ : Lft) (R : RattleType) → RowLaws R → (x : Bor (List R.Denot)) → Step K 𝓛 (‵ ((ShrSlice (named j) κ R).own_val x (shr_slice_vals x)) ∷ ‵ ((ShrSlice (named j) κ R).own_val x (shr_slice_vals x)) ∷ Γ) G (‵ ((ShrSlice (named j) κ R).own_val x (shr_slice_vals x)) ∷ Γ) G
  twice j κ R laws x = cut (F ∷ []) (F ∷ F ∷ []) Γ ((shr_slice_copy 𝓛 (named j) κ R laws).twice x (shr_slice_vals x))
    where
      F : Item 𝓤
      F = ‵ ((ShrSlice (named j) κ R).own_val x (shr_slice_vals x))

  -- A number is had for nothing.
  pub counted : (n : ℕ) → n < 2 ^ 64 → Step K 𝓛 (‵ (usize.own_val n (vint w64 n ∷ [])) ∷ Γ) G Γ G
  counted n fits = use0 𝓛 (‵ (usize.own_val n (vint w64 n ∷ []))) (uint_Makes 𝓛 w64 n (vint w64 n ∷ []) (refl, fits))

  -- The last list of a `&mut [T]` that is not used is the list passed.
  pub unused : (j : ℕ) (κ : Lft) (R : RattleType) (x : MutBor (List R.Denot)) → Step K 𝓛 (‵ (finally R x.ghost_name x.now) ∷ Γ) G (‵ ((MutSlice (named j) κ R).own_val x (mut_slice_vals x)) ∷ Γ) G
  unused j κ R x = cut (‵ ((MutSlice (named j) κ R).own_val x (mut_slice_vals x)) ∷ []) (‵ (finally R x.ghost_name x.now) ∷ []) Γ
      (qed 𝓛 (‵ ((MutSlice (named j) κ R).own_val x (mut_slice_vals x)) ∷ []) ∵ fsplit ! $ drop ! $ fsplit ! $ move ! (1 ∷ []) $ drop ! $
      use1 𝓛 (‵ (fres x.ghost_name ((coded_holeys R).code (heres R x.now)))) (𝓛.names.obs-res x.ghost_name ((coded_holeys R).code (heres R x.now))) $
      use1 𝓛 (‵ (finally R x.ghost_name x.now)) (res-finally 𝓛 (named j) κ R x.ghost_name x.now) $ done !)

  pub tokens_apart : (n : ℕ) (κs : Lfts n) (qs : Shares n) → Step K 𝓛 (tokens 𝓛 n κs qs ++ Γ) G (raw (toks 𝓛 n κs qs) ∷ Γ) G
  tokens_apart n κs qs = cut (raw (toks 𝓛 n κs qs) ∷ []) (tokens 𝓛 n κs qs) Γ (tokens_part 𝓛 n κs qs)

  pub tokens_together : (n : ℕ) (κs : Lfts n) (qs : Shares n) → Step K 𝓛 (raw (toks 𝓛 n κs qs) ∷ Γ) G (tokens 𝓛 n κs qs ++ Γ) G
  tokens_together n κs qs = cut (tokens 𝓛 n κs qs) (raw (toks 𝓛 n κs qs) ∷ []) Γ (tokens_join 𝓛 n κs qs)

-- ---- What comes back from a call

module _ {M : Type 1} {𝓤 : Ura M} (𝓛 : Logic 𝓤) {n : ℕ} (κs : Lfts n) where
  -- What comes back of each parameter, the last one first, before other entries.
  open 𝓛 use {H}

  abbrev pub back_of : (ss : List (Slot n)) (cs : AllCome ss) (a : Denots (types_at ss κs)) → Fins κs ss (keeps_of ss) a → List (Item 𝓤) → List (Item 𝓤)
  back_of [] cs a ws Γ = Γ
  back_of (s ∷ ss) cs a ws Γ = back_of ss cs.1 a.1 ws.1 (‵ (cs.0.back κs a.0 ws.0) ∷ Γ)

  -- What is known of their last values.
  abbrev pub Known : (ss : List (Slot n)) (cs : AllCome ss) (a : Denots (types_at ss κs)) → Fins κs ss (keeps_of ss) a → Type 0
  Known [] cs a ws = Unit {0}
  Known (s ∷ ss) cs a ws = cs.0.known κs a.0 ws.0 × Known ss cs.1 a.1 ws.1

  lasts_back : {K : Type 0} {G : Goal 𝓤 H} (ss : List (Slot n)) (cs : AllCome ss) (a : Denots (types_at ss κs)) (ws : Fins κs ss (keeps_of ss) a) (Γ : List (Item 𝓤)) → K
      → (Known ss cs a ws → Seq K 𝓛 (back_of ss cs a ws Γ) G) → Seq K 𝓛 (‵ (lasts_of κs ss (keeps_of ss) a ws) ∷ Γ) G
  lasts_back [] cs a ws Γ t k = drop t $ k tt
  lasts_back (s ∷ ss) cs a ws Γ t k =
      fsplit t $ use1 𝓛 (given (cs.0.known κs a.0 ws.0) (‵ (cs.0.back κs a.0 ws.0))) (cs.0.opens 𝓛 κs a.0 ws.0) $ learn t (λ e.
      move t (1 ∷ []) $ lasts_back ss cs.1 a.1 ws.1 (‵ (cs.0.back κs a.0 ws.0) ∷ Γ) t (λ es. k (e, es)))

module _ (S : Signature) where
  -- A contract that says the last value of every `&mut`.
  abbrev pub ended_of : Ended
  ended_of = record { signature = S; kept = keeps_of S.params }

  -- After a call: what comes back of the parameters, the tokens and the result, with what the callee ensures, φ.
  pub returned : {M : Type 1} {𝓤 : Ura M} {K : Type 0} (𝓛 : Logic 𝓤) (cs : AllCome S.params) (c : Clauses 𝓤 ended_of) (y : (triple_of 𝓛 S (closing 𝓛 ended_of c)).Ghost) (v : Val)
      (φ : Res S y.0.0 → Lasts ended_of y.0.0 y.0.3 → Type 0)
      → ((r : Res S y.0.0) (ws : Lasts ended_of y.0.0 y.0.3) → ent 𝓤 ((c y.0.0 y.0.3).ensures y.1 r (at_exit ended_of y.0.0 y.0.3 ws)) (fact 𝓤 (φ r ws)))
      → {Γ : List (Item 𝓤)} {G : Goal 𝓤 𝓛.H} → K → Soaks G
      → ((r : Res S y.0.0) (ws : Lasts ended_of y.0.0 y.0.3) → φ r ws → Known 𝓛 y.0.0 S.params cs y.0.3 ws
      → Seq K 𝓛 (back_of 𝓛 y.0.0 S.params cs y.0.3 ws (raw (toks 𝓛 S.lifetimes y.0.0 y.0.1) ∷ ‵ ((type_at S.result y.0.0).own_val r (v ∷ [])) ∷ Γ)) G)
      → Seq K 𝓛 (raw ((triple_of 𝓛 S (closing 𝓛 ended_of c)).post y v) ∷ Γ) G
  returned {M} {𝓤} 𝓛 cs c y v φ says {Γ} t soaks k =
      let κs = y.0.0 in
      let a = y.0.3 in
      let own : Res S κs → Item 𝓤 = λ r. ‵ ((type_at S.result κs).own_val r (v ∷ [])) in
      let T = raw (toks 𝓛 S.lifetimes κs y.0.1) in
      use1 𝓛 (later (some (λ (r : Res S κs). (T ⊛ own r) ⊛ some (λ (ws : Lasts ended_of κs a). ‵ (lasts ended_of κs a ws) ⊛ raw ((c κs a).ensures y.1 r (at_exit ended_of κs a ws)))))) (id⊢ 𝓤 _) $
      await t soaks $ pick t (λ r. split t $ move t (1 ∷ []) $ pick t (λ ws. split t $ move t (1 ∷ []) $ use1 𝓛 (raw (fact 𝓤 (φ r ws))) (says r ws) $ heard t (φ r ws) (λ e.
      move t (1 ∷ []) $ split t $ move t (2 ∷ []) $ lasts_back 𝓛 κs S.params cs a ws (T ∷ own r ∷ Γ) t (λ es. k r ws e es))))

-- ---- Exit

module _ (S : Signature) (ps : Handleds S.params) where
  module _ {M : Type 1} {𝓤 : Ura M} (𝓛 : Logic 𝓤) (c : Clauses 𝓤 (ended_of S)) where
    -- What a walk ends with, for arguments that are passed as their machine values.
    abbrev pub Passed : Type 0
    Passed = (walk_of 𝓛 (ended_of S) (stays_of S.params ps) c).Ghost

    abbrev pub PostOf : Passed → Val → SProp 𝓤
    PostOf = (walk_of 𝓛 (ended_of S) (stays_of S.params ps) c).post

    -- At exit a walk has the tokens, what is left of its parameters, and the result, and has shown what the contract ensures.
    pub exits : (y : Passed) (v : Val) (r : Res S y.0.0) (ws : Lasts (ended_of S) y.0.0 y.0.3) → Fit (ended_of S) (stays_of S.params ps) y.0.0 y.0.3 ws
        → ent 𝓤 (emp 𝓤) ((c y.0.0 y.0.3).ensures y.1 r (at_exit (ended_of S) y.0.0 y.0.3 ws))
        → ent 𝓤 (⋆ 𝓛 (raw (toks 𝓛 S.lifetimes y.0.0 y.0.1) ∷ (left_of 𝓛 y.0.0 S.params ps y.0.3 ws y.0.4 ++ (‵ ((type_at S.result y.0.0).own_val r (v ∷ [])) ∷ [])))) (PostOf y v)
    exits y v r ws fit said =
        let κs = y.0.0 in
        let T = toks 𝓛 S.lifetimes κs y.0.1 in
        let L = left_of 𝓛 κs S.params ps y.0.3 ws y.0.4 in
        let R = ‵ ((type_at S.result κs).own_val r (v ∷ [])) ∷ [] in
        let E = (c κs y.0.3).ensures y.1 r (at_exit (ended_of S) κs y.0.3 ws) in
        let hs = stays_of S.params ps in
        let had = has_of κs S.params (keeps_of S.params) hs y.0.3 ws y.0.4 in
        let own = sem 𝓛 ((type_at S.result κs).own_val r (v ∷ [])) in
        let back = sep 𝓤 T (sep 𝓤 (sem 𝓛 had) own) in
        via 𝓤 (sep 𝓤 T (⋆ 𝓛 (L ++ R))) (pop 𝓛 (raw T) (L ++ R))
        (via 𝓤 back
        (mono_r 𝓤 T (via 𝓤 (sep 𝓤 (⋆ 𝓛 L) own) (⊢++ 𝓛 L R) (mono_l 𝓤 own (left_together 𝓛 κs S.params ps y.0.3 ws y.0.4))))
        (via 𝓤 (sep 𝓤 (emp 𝓤) back) (emp∗ 𝓤 back)
        (via 𝓤 (sep 𝓤 back (emp 𝓤)) (comm∗ 𝓤 (emp 𝓤) back)
        (via 𝓤 (sep 𝓤 back E) (mono_r 𝓤 back said) (ends_at 𝓛 (ended_of S) hs c y v r ws fit)))))

-- ---- The contract

module _ (S : Signature) (ps : Handleds S.params) {M : Type 1} {𝓤 : Ura M} (𝓛 : Logic 𝓤) (c : Clauses 𝓤 (ended_of S)) (f : Fn) where
  -- A walk of a function's code, over tables of calls and loops, from what it has at entry to what it leaves at exit.
  open 𝓛 use {H}

  abbrev pub WalkOf : Calls 𝓤 H → Loops 𝓤 H → Type 1
  WalkOf C Λ = (κs : Lfts S.lifetimes) (qs : Shares S.lifetimes) (bounds : AllOutlive S.lifetimes S.outlives κs) (a : Args S κs) (g : (c κs a).ghost)
      → Are (types_at S.params κs) (Ises (types_at S.params κs)) a (passed_as S ps κs a)
      → ent 𝓤 (sep 𝓤 (on_entry 𝓛 S κs qs a (passed_as S ps κs a)) ((c κs a).requires g)) (WpFn 𝓤 H C Λ f (flat (types_at S.params κs) (passed_as S ps κs a)) (PostOf S ps 𝓛 c ((κs, qs, bounds, a, passed_as S ps κs a), g)))

  -- It gives the function's contract.
  pub walked_through : (𝓣 : Tables 𝓤 H) → WalkOf 𝓣.C 𝓣.Λ → Meets 𝓛 S (WpFn 𝓤 H 𝓣.C 𝓣.Λ f) (closing 𝓛 (ended_of S) c)
  walked_through 𝓣 walk =
      walk_Meets 𝓛 (ended_of S) (stays_of S.params ps) (goes_of 𝓛 S.params ps) c (WpFn 𝓤 H 𝓣.C 𝓣.Λ f) (WpFn-mono 𝓤 H 𝓛.laws 𝓣 f)
      (walked 𝓛 (ended_of S) (stays_of S.params ps) c (WpFn 𝓤 H 𝓣.C 𝓣.Λ f) (spells_of S.params ps) (tells_of S.params ps) walk)

module _ {M : Type 1} {𝓤 : Ura M} (𝓛 : Logic 𝓤) (𝓜 : Model 𝓤 𝓛.H) (𝓡 : Running 𝓤 𝓛.H 𝓜) (S : Signature) (ps : Handleds S.params) (c : Clauses 𝓤 (ended_of S)) (γ : Env) (k : Callee) (f : Fn) where
  open 𝓛 use {H}

  pub meets_by_walk : Closed 𝓤 H (tables 𝓤 H 𝓜 𝓡 γ).C (tables 𝓤 H 𝓜 𝓡 γ).Λ k f
      → (FmC 𝓤 H 𝓛.laws (tables 𝓤 H 𝓜 𝓡 γ).C → WalkOf S ps 𝓛 c f (tables 𝓤 H 𝓜 𝓡 γ).C (tables 𝓤 H 𝓜 𝓡 γ).Λ)
      → Triple 𝓤 ((tables 𝓤 H 𝓜 𝓡 γ).C k) (triple_of 𝓛 S (closing 𝓛 (ended_of S) c))
  unfolding tables_of
  meets_by_walk closed walk =
      let 𝓣 = tables_of 𝓤 H 𝓜 (tables 𝓤 H 𝓜 𝓡 γ) in
      entered 𝓤 H (triple_of 𝓛 S (closing 𝓛 (ended_of S) c)) (tables 𝓤 H 𝓜 𝓡 γ).C (tables 𝓤 H 𝓜 𝓡 γ).Λ k f closed
      (walked_through S ps 𝓛 c f 𝓣 (walk (fm_of 𝓤 H 𝓛.laws 𝓣)))
