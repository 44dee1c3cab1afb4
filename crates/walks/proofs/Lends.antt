-- A `&mut [T]` that is lent as `&[T]` for the time of a call, and comes back as it was.
use mathlib.Core.Path.{refl}
use mathlib.Core.List.{List, [], ◌∷◌}
use Prim.Native.Nat.{ℕ}
use seplogic.Ra.Ura.{Ura}
use base.Fraction.{full_share}
use lib.ListN.{length}
use mir.Syntax.{Lifetime}
use base.Logic.{ent, sep}
use base.Fml.{Lft, Share, Fml, Incl, fsep, flft, fdead, flent, fobor, fobs, fauth}
use ghost.Rules.{Toks, span}
use types.Logic.{Logic, sem, lfts}
use types.Kit.{‵, raw, ◌⊛◌, later, ◌$◌, ◌∵◌, !, qed, move, drop, use2, split, fsplit, fjoin, feq_i, await, updating, now as at_once, done}
use types.Tokens.{lent_back}
use types.Share.{arr_parts}
use denote.RattleType.{RattleType}
use denote.Memory.{shares, shared_of}
use denote.MutBor.{MutBor, as_bor}
use denote.Shares.{SharesAsFrom}
use denote.Slice.{shr_slice_vals, mut_slice_vals, MutSlice, ShrSlice, Room, heres, coded_holeys, mut_slice_at}
use denote.Lend.{Held, lends_shr_slice}
use denote.Index.{opens_slice, closes_slice}
use denote.Shadow.{pure_i}

module _ {M : Type 1} {𝓤 : Ura M} (𝓛 : Logic 𝓤) (R : RattleType) where
  open 𝓛 use {H, A}

  -- What the lender keeps meanwhile: the elements, lent for κ', and its own borrow, open.
  abbrev pub Kept : Lft → Share → Lft → MutBor (List R.Denot) → Fml
  Kept κ q κ' x =
      fsep (flent κ' ((arr_parts (shares R) (length x.now)).part full_share x.now x.ref_ptr.0 x.ref_ptr.1))
      (fsep (fobor κ q (Held R (length x.now) x.ref_ptr.0 x.ref_ptr.1 x.ghost_name))
      (fsep (fobs x.ghost_name ((coded_holeys R).code (heres R x.now))) (fauth x.ghost_name ((coded_holeys R).code (heres R x.now)))))

  -- The elements are shared out with the tokens ts, whose lifetimes' meet is within κ' and within that of the law of R.
  pub shares_out : (ℓ ℓ' : Lifetime) (κ κ' : Lft) (q : Share) (x : MutBor (List R.Denot)) → Room R (length x.now)
      → (l : Lft) → SharesAsFrom 𝓛 full_share R (shared_of R) l → (ts : Toks) → Incl (span ts) l → Incl (span ts) κ'
      → ent 𝓤 (sep 𝓤 (sem 𝓛 ((MutSlice ℓ κ R).own_val x (mut_slice_vals x))) (sep 𝓤 (A.lft κ q) (lfts 𝓛 ts)))
      (H.⇛ (sep 𝓤 (sem 𝓛 ((ShrSlice ℓ' κ' R).own_val (as_bor x) (shr_slice_vals (as_bor x)))) (sep 𝓤 (sem 𝓛 (Kept κ q κ' x)) (lfts 𝓛 ts))))
  shares_out ℓ ℓ' κ κ' q x room l s ts inc sp =
      qed 𝓛 (‵ ((MutSlice ℓ κ R).own_val x (mut_slice_vals x)) ∷ ‵ (flft κ q) ∷ raw (lfts 𝓛 ts) ∷ []) ∵ updating ! $ fsplit ! $ drop ! $ fsplit ! $
      opens_slice ! tt R x.now x.ref_ptr.0 x.ref_ptr.1 $ feq_i ! ℕ (length x.now) (length x.now) refl $ fjoin ! $ move ! (0 ∷ 4 ∷ []) $
      use2 𝓛 (later ((‵ ((ShrSlice ℓ' κ' R).own_val (as_bor x) (shr_slice_vals (as_bor x))) ⊛ ‵ (flent κ' ((arr_parts (shares R) (length x.now)).part full_share x.now x.ref_ptr.0 x.ref_ptr.1))) ⊛ raw (lfts 𝓛 ts)))
      (lends_shr_slice 𝓛 R ℓ' κ' full_share x.now x.ref_ptr.0 x.ref_ptr.1 room l s ts inc sp) $ await ! tt $ split ! $ split ! $ at_once ! $
      move ! (4 ∷ 5 ∷ []) $ fjoin ! $ move ! (4 ∷ 0 ∷ []) $ fjoin ! $ move ! (2 ∷ 0 ∷ []) $ fjoin ! $ move ! (1 ∷ 0 ∷ []) $ done !

  pub shared_back : (ℓ : Lifetime) (κ κ' : Lft) (q : Share) (x : MutBor (List R.Denot)) → Room R (length x.now)
      → ent 𝓤 (sep 𝓤 (A.dead κ') (sem 𝓛 (Kept κ q κ' x))) (H.⇛ (sep 𝓤 (sem 𝓛 ((MutSlice ℓ κ R).own_val x (mut_slice_vals x))) (A.lft κ q)))
  shared_back ℓ κ κ' q x room =
      qed 𝓛 (‵ (fdead κ') ∷ ‵ (Kept κ q κ' x) ∷ []) ∵ updating ! $ move ! (1 ∷ []) $ fsplit ! $ move ! (2 ∷ 0 ∷ []) $ lent_back ! tt $ fsplit ! $ drop ! $
      move ! (1 ∷ []) $ fsplit ! $ move ! (1 ∷ []) $ fsplit ! $ move ! (3 ∷ 2 ∷ 0 ∷ 1 ∷ []) $ closes_slice ! tt R x.now x.now refl x.ref_ptr.0 x.ref_ptr.1 $
      fjoin ! $ pure_i ! (mut_slice_at R x (mut_slice_vals x)) (tt, (tt, tt)) (refl, room) $ fjoin ! $ at_once ! $ done !
