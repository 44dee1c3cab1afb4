-- The machine value of a record, and a record in a local: lent under a new name, and back in its local once the lifetime is over.
use mathlib.Core.Path.{refl, subst}
use Prim.Native.Nat.{ℕ}
use mathlib.Core.List.{[], ◌∷◌, List}
use seplogic.Ra.Ura.{Ura}
use base.Fraction.{full_share}
use mir.Syntax.{Lifetime}
use mir.Val.{Val}
use base.Logic.{ent, sep, ex}
use base.Fml.{Lft, GName, Fml, fdead, fres, flent, fsep, fat}
use types.Logic.{Logic, sem}
use types.Kit.{‵, later, given, mean, ◌$◌, ◌∵◌, !, qed, by, move, drop, use1, use3, fsplit, fjoin, fpick, fpack, await, updating, now as at_once, check, rewrite, done}
use types.SemTy.{Body}
use denote.Laws.{Is, shows}
use denote.Memory.{cell_at, part_of, mem}
use denote.Lend.{LentRef, lends_ref, ref_back}
use denote.Steps.{owned, peeks, only}
use denote.Struct.Laws as LL
use Rattle.records.specs.declared.record.Task.{Task}
use Rattle.records.specs.contracts.record.Task as T
use Rattle.records.proofs.record.Task.TheLaws as T'

-- The machine value of a record.
abbrev pub mach : Task → Val
mach h = only (LL.vals T.the_type T'.the_laws h)

-- A record has its machine value.
abbrev pub Plain : Task → Type 0
Plain h = Is T.the_row h (mach h ∷ [])

-- A record in a local.
abbrev pub record_at : Task → ℕ → Fml
record_at h b = fat full_share T'.mir b 0 (mach h)

-- What the borrow of a record in a local holds.
abbrev pub RecordBody : ℕ → GName → Fml
RecordBody b γ = Body (mem T.the_row) b 0 γ

module _ {M : Type 1} {𝓤 : Ura M} (𝓛 : Logic 𝓤) where
  -- It is lent under a new name.
  open 𝓛 use {H, A}

  pub lends_record : (ℓ : Lifetime) (κ : Lft) (h : Task) (b : ℕ) → Plain h → ent 𝓤 (sem 𝓛 (record_at h b)) (H.⇛ (ex 𝓤 (LentRef 𝓛 T.the_row ℓ κ h b 0)))
  unfolding part_of
  lends_record ℓ κ h b is =
      qed 𝓛 (‵ (record_at h b) ∷ []) ∵ use1 𝓛 (‵ (cell_at full_share (T.the_row).mir (mach h ∷ []) b 0)) (𝓛.laws.at_raw full_share T'.mir b 0 (mach h)) $
      owned ! T.the_row (Is T.the_row) (LL.makes T.the_type T'.the_plain 𝓛) h (mach h ∷ []) is $ move ! (1 ∷ 0 ∷ []) $ fjoin ! $
      fpack ! (List Val) (λ vs. fsep (cell_at full_share (T.the_row).mir vs b 0) ((T.the_row).own_val h vs)) (mach h ∷ []) $ by ! (lends_ref 𝓛 T.the_row ℓ κ h b 0)

  -- Once the lifetime is over, the local holds the last value of the reference.
  pub record_back : (κ : Lft) (γ : GName) (h : Task) (b : ℕ)
      → ent 𝓤 (sep 𝓤 (A.dead κ) (sep 𝓤 (A.lent κ (RecordBody b γ)) (A.res γ ((T.the_row).coded.code h)))) (H.⇛ (mean 𝓛 (given (Plain h) (‵ (record_at h b)))))
  unfolding part_of
  record_back κ γ h b =
      qed 𝓛 (‵ (fdead κ) ∷ ‵ (flent κ (RecordBody b γ)) ∷ ‵ (fres γ ((T.the_row).coded.code h)) ∷ []) ∵ updating ! $
      use3 𝓛 (later (‵ ((mem T.the_row).own_at h b 0))) (ref_back 𝓛 T.the_row κ γ h b 0) $ await ! tt $ fpick ! (λ vs. fsplit ! $ move ! (1 ∷ []) $
      peeks ! T.the_row (Is T.the_row) (shows 𝓛 T.the_row) h vs (λ is. drop ! $ let told = LL.tells T.the_type T'.the_laws h vs is in
      rewrite ! 0 (λ (us : List Val). ‵ (cell_at full_share (T.the_row).mir us b 0)) told refl $
      use1 𝓛 (‵ (record_at h b)) (𝓛.laws.raw_at full_share T'.mir b 0 (mach h)) $ at_once ! $ check ! (subst (Is T.the_row h) told is) $ done !))
