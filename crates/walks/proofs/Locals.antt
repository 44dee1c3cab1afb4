-- The locals of a walked function: a local as an operand, a slice that is lent on, a walk by cases, and the
-- end, where all locals are freed.
use mathlib.Core.Path.{◌≡◌, refl, sym, subst}
use mathlib.Core.Bool.{Bool, true, false}
use mathlib.Core.List.{[], ◌∷◌, List}
use Prim.Native.Nat.{ℕ, zero, suc, ◌+◌, ◌-◌}
use seplogic.Ra.Ura.{Ura}
use base.Fraction.{full_share}
use lib.Dec.{T}
use mathlib.Core.Option.{some}
use mir.Syntax.{Ty, Tys, Sym, ty_int, ty_struct, w64, place, copy, field, deref, addr_of, aggregate, Body, seq, assign}
use mir.Val.{Val, Vals, vptr, vstruct, has_ty, WT}
use mir.Fields.{get_v, set_v}
use prog.Memory.{field_of, field_at}
use denote.Slice.{slice_ty, slice_val}
use types.Part.{Part, agg, whole, sub, look_in}
use base.Fml.{Fml, Share, ftrue, ffalse, feq, flt, fsep, fand, for, fwand, fex, fall, fupd, fat, froom, fdies, flft, fdead, fobs, fauth, fres, fbor, fobor, flent, fshr_bor, fhide, fleft, fown, finv, fnamed, ftok, fkid, fme, fsent}
use base.Logic.{SProp}
use prog.Wp.{Env, Calls, Loops, Wp, spot_of, at_return}
use types.Logic.{Logic}
use types.Kit.{Item, ‵, raw, ◌⊛◌, some as someItem, given, later, nth, put, Post, runs, at_ret, prop, Goal, frees, Seq, Step, step, ◌$◌}
use types.Run.{Opd, Reads, look, load, init, from, fld, hop, stop, addr, and_then, no_more, assigns, exec, forget, free1, free0}

-- ---- A local as an operand, and a local that is set

module _ {M : Type 1} {𝓤 : Ura M} {𝓛 : Logic 𝓤} {K : Type 0} {Γ : List (Item 𝓤)} where
  -- Field k of the struct at entry n.
  part : K → (n k : ℕ) {q : Share} {ν : Sym} {τs : Tys} {b o : ℕ} {vs : Vals} {τ : Ty} {d : ℕ} → nth 𝓛 n Γ ≡ ‵ (fat q (ty_struct ν τs) b o (vstruct vs)) → field_at zero τs k ≡ some (τ, d) → Reads K 𝓛 Γ τ b (o + d) (get_v vs k)
  part t n k {q} {ν} {τs} {b} {o} {vs} {τ} {d} e f =
      look_in t n (subst (λ (i : Item 𝓤). Part K 𝓛 i q τ b (o + d) (get_v vs k) (λ u. ‵ (fat q (ty_struct ν τs) b o (vstruct (set_v vs k u))))) (sym e) (sub t k f (whole t)))

module _ {M : Type 1} {𝓤 : Ura M} {𝓛 : Logic 𝓤} {K : Type 0} {Γ : List (Item 𝓤)} {E : Env 𝓤 𝓛.H} where
  -- The local at entry n.
  open 𝓛 use {H}

  pub held : K → (n : ℕ) {i : ℕ} {q : Share} {v : Val} → nth 𝓛 n Γ ≡ ‵ (fat q (spot_of 𝓤 H E i).0 (spot_of 𝓤 H E i).1 zero v) → Opd K 𝓛 Γ E (copy (place i [])) v
  held t n e = load t (from t (stop t)) (look t n e)

  -- A slice, in the local at entry p, is lent on: its pointer goes into the local at entry d, the new slice into that at
  -- entry e.
  pub lends_on : {C : Calls 𝓤 H} {Λ : Loops 𝓤 H} {f : Post 𝓤 H} {rest : Body} → K → (p d e : ℕ) {a i j b o m : ℕ} {q : Share} {ρ τ : Ty}
      → (field_of (slice_ty ρ) 0 ≡ some (ρ, 0)) × (field_of (slice_ty ρ) 1 ≡ some (ty_int w64, 8)) → (spot_of 𝓤 H E a).0 ≡ slice_ty ρ → nth 𝓛 p Γ ≡ ‵ (fat q (slice_ty ρ) (spot_of 𝓤 H E a).1 zero (slice_val (b, o) m)) → nth 𝓛 d Γ ≡ ‵ (froom (spot_of 𝓤 H E i).0 (spot_of 𝓤 H E i).1 zero)
      → T (has_ty (spot_of 𝓤 H E i).0 (vptr b o)) × WT (vptr b o)
      → (let Δ = put 𝓛 d (‵ (fat full_share (spot_of 𝓤 H E i).0 (spot_of 𝓤 H E i).1 zero (vptr b o))) Γ in
      (nth 𝓛 p Δ ≡ ‵ (fat q (slice_ty ρ) (spot_of 𝓤 H E a).1 zero (slice_val (b, o) m))) × (nth 𝓛 d Δ ≡ ‵ (fat full_share (spot_of 𝓤 H E i).0 (spot_of 𝓤 H E i).1 zero (vptr b o))) × (nth 𝓛 e Δ ≡ ‵ (froom (spot_of 𝓤 H E j).0 (spot_of 𝓤 H E j).1 zero)))
      → T (has_ty (spot_of 𝓤 H E j).0 (slice_val (b, o) m)) × WT (slice_val (b, o) m)
      → Step K 𝓛 (put 𝓛 e (‵ (fat full_share (spot_of 𝓤 H E j).0 (spot_of 𝓤 H E j).1 zero (slice_val (b, o) m))) (put 𝓛 d (‵ (fat full_share (spot_of 𝓤 H E i).0 (spot_of 𝓤 H E i).1 zero (vptr b o))) Γ)) (runs C Λ E rest f)
      Γ (runs C Λ E (seq (assign (place i []) (addr_of (place a (field 0 ∷ deref τ ∷ [])))) (seq (assign (place j []) (aggregate (copy (place i []) ∷ copy (place a (field 1 ∷ [])) ∷ []))) rest)) f)
  lends_on t p d e {ρ} fields slice at_p at_d pointer after fits = step (λ s.
      assigns t (addr t (from t (fld t (subst (λ (σ : Ty). field_of σ 0 ≡ some (ρ, 0)) (sym slice) fields.0) (hop t (part t p 0 at_p fields.0) (stop t))))) (from t (stop t)) (init t d at_d pointer) $
      assigns t (agg t (and_then t (load t (from t (stop t)) (look t d after.1)) (and_then t (load t (from t (fld t (subst (λ (σ : Ty). field_of σ 1 ≡ some (ty_int w64, 8)) (sym slice) fields.1) (stop t))) (part t p 1 after.0 fields.1)) (no_more t))))
      (from t (stop t)) (init t e after.2 fits) $ s)

-- ---- Cases

-- A walk by cases on a test.
pub decide : {M : Type 1} {𝓤 : Ura M} {𝓛 : Logic 𝓤} {K : Type 0} {Γ : List (Item 𝓤)} {G : Goal 𝓤 𝓛.H} (c : Bool) → (c ≡ true → Seq K 𝓛 Γ G) → (c ≡ false → Seq K 𝓛 Γ G) → Seq K 𝓛 Γ G
decide true f g = f refl
decide false f g = g refl

-- ---- The locals are freed

-- The positions of k locals that stand one after another, the last of them first; the first one stands at position p.
abbrev pub down : ℕ → ℕ → List ℕ
down p zero = []
down p (suc k) = p ∷ suc p ∷ down (p - 2) k

-- A local: its type, its block, and what it holds, a value or nothing.
pub data Content : Type 0 where
  full : Ty → ℕ → Val → Content
  bare : Ty → ℕ → Content
  other : Content

abbrev in_cell : Fml → Content
in_cell ftrue = other
in_cell ffalse = other
in_cell (feq X x y) = other
in_cell (flt m n) = other
in_cell (fsep F G) = other
in_cell (fand F G) = other
in_cell (for F G) = other
in_cell (fwand F G) = other
in_cell (fex X F) = other
in_cell (fall X F) = other
in_cell (fupd F) = other
in_cell (fat q τ b o v) = full τ b v
in_cell (froom τ b o) = bare τ b
in_cell (fdies τ b) = other
in_cell (flft κ q) = other
in_cell (fdead κ) = other
in_cell (fobs γ x) = other
in_cell (fauth γ x) = other
in_cell (fres γ x) = other
in_cell (fbor κ F) = other
in_cell (fobor κ q F) = other
in_cell (flent κ F) = other
in_cell (fshr_bor κ F) = other
in_cell (fhide F) = other
in_cell (fleft q τ τs b o) = other
in_cell (fown R γ x) = other
in_cell (finv F) = other
in_cell (fnamed n F) = other
in_cell (ftok m) = other
in_cell (fkid h a) = other
in_cell (fme t) = other
in_cell (fsent x) = other

abbrev content_of : {M : Type 1} {𝓤 : Ura M} → Item 𝓤 → Content
content_of (‵ F) = in_cell F
content_of (raw P) = other
content_of (i ⊛ j) = other
content_of (someItem F) = other
content_of (given φ i) = other
content_of (later i) = other

-- The first k locals of a context, and what comes after them.
abbrev pub contents : {M : Type 1} {𝓤 : Ura M} → ℕ → List (Item 𝓤) → List Content
contents zero Γ = []
contents (suc k) [] = []
contents (suc k) (i ∷ []) = []
contents (suc k) (i ∷ j ∷ Γ) = content_of i ∷ contents k Γ

abbrev pub after : {M : Type 1} {𝓤 : Ura M} → ℕ → List (Item 𝓤) → List (Item 𝓤)
after zero Γ = Γ
after (suc k) [] = []
after (suc k) (i ∷ []) = []
after (suc k) (i ∷ j ∷ Γ) = after k Γ

abbrev turned : List Content → List Content → List Content
turned [] ds = ds
turned (c ∷ cs) ds = turned cs (c ∷ ds)

module _ {M : Type 1} {𝓤 : Ura M} (𝓛 : Logic 𝓤) where
  -- The environment of locals, and a context that begins with them.
  open 𝓛 use {H}

  abbrev pub env_of : List Content → Env 𝓤 H
  env_of [] = []
  env_of (full τ b v ∷ cs) = (τ, b) ∷ env_of cs
  env_of (bare τ b ∷ cs) = (τ, b) ∷ env_of cs
  env_of (other ∷ cs) = env_of cs

  abbrev pub locals : List Content → List (Item 𝓤) → List (Item 𝓤)
  locals [] Γ = Γ
  locals (full τ b v ∷ cs) Γ = ‵ (fat full_share τ b zero v) ∷ ‵ (fdies τ b) ∷ locals cs Γ
  locals (bare τ b ∷ cs) Γ = ‵ (froom τ b zero) ∷ ‵ (fdies τ b) ∷ locals cs Γ
  locals (other ∷ cs) Γ = locals cs Γ

module _ {M : Type 1} {𝓤 : Ura M} {𝓛 : Logic 𝓤} {K : Type 0} {Γ : List (Item 𝓤)} {g : Goal 𝓤 𝓛.H} where
  frees_all : K → (cs : List Content) → Step K 𝓛 Γ g (locals 𝓛 cs Γ) (frees (env_of 𝓛 cs) g)
  frees_all t [] = free0 t
  frees_all t (full τ b v ∷ cs) = step (λ s. forget t zero refl $ free1 t $ ((frees_all t cs).go s))
  frees_all t (bare τ b ∷ cs) = step (λ s. free1 t $ ((frees_all t cs).go s))
  frees_all t (other ∷ cs) = frees_all t cs

module _ {M : Type 1} {𝓤 : Ura M} {𝓛 : Logic 𝓤} {K : Type 0} {Γ : List (Item 𝓤)} {g : Goal 𝓤 𝓛.H} where
  -- A context that begins with the k locals, in their order, is left without them.
  pub frees_locals : K → (k : ℕ) → Γ ≡ locals 𝓛 (contents k Γ) (after k Γ) → Step K 𝓛 (after k Γ) g Γ (frees (env_of 𝓛 (contents k Γ)) g)
  frees_locals t k e = step (λ s. subst (λ (Δ : List (Item 𝓤)). Seq K 𝓛 Δ (frees (env_of 𝓛 (contents k Γ)) g)) (sym e) ((frees_all t (contents k Γ)).go s))

module _ {M : Type 1} {𝓤 : Ura M} {𝓛 : Logic 𝓤} {K : Type 0} {Γ : List (Item 𝓤)} where
  -- The code after a branch runs over the k locals with which the context begins, the last of them first.
  open 𝓛 use {H}

  pub goes_on : K → (C : Calls 𝓤 H) (Λ : Loops 𝓤 H) (k : ℕ) (b : Body) (Kf : Val → SProp 𝓤) → (let E = env_of 𝓛 (turned (contents k Γ) []) in
      Step K 𝓛 Γ (runs C Λ E b (at_ret E Kf)) Γ (prop (Wp 𝓤 H C Λ E b (at_return 𝓤 H E Kf))))
  goes_on t C Λ k b Kf = exec t C Λ (env_of 𝓛 (turned (contents k Γ) [])) b (at_ret (env_of 𝓛 (turned (contents k Γ) [])) Kf)
