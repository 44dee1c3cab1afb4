-- An array of nine records in memory: cut in two so that its first part can be lent, and put together again.
use mathlib.Core.Path.{◌≡◌, refl, subst}
use mathlib.Core.List.{[], ◌∷◌, List, ◌++◌}
use Prim.Native.Nat.{ℕ, zero, suc, ◌+◌}
use lib.ListN.{length, take, drop as dropN}
use seplogic.Ra.Ura.{Ura}
use base.Fraction.{full_share}
use mir.Syntax.{ty_array}
use mir.Val.{Val}
use base.Logic.{ent, sep}
use base.Fml.{Fml, fsep, fat}
use types.Logic.{Logic, sem}
use types.Kit.{‵, ◌⊛◌, given, mean, ◌$◌, ◌∵◌, !, qed, move, drop, use1, use2, split, fsplit, fjoin, fpick, fpack, feq_i, check, rewrite, done}
use types.SemTy.{cells}
use types.Share.{arr_parts}
use denote.Laws.{Is, shows}
use denote.Memory.{cell_at, part_at, part_of, mem, shares}
use denote.Array.{Array, array_vals, Array-Tells, Array-Makes}
use denote.ArrayMemory.{Array-apart, Array-whole}
use denote.Index.{place, row, whole_in, whole_out}
use denote.Steps.{owned, peeks, nothing, only}
use denote.Exit.{yes}
use denote.Signature.{plain}
use denote.Triple.Walked.{stay_none, Goes-none}
use Rattle.walks.proofs.Parameters.{Handled, silent}
use denote.Struct.Laws as LL
use Rattle.records.specs.declared.record.Task.{Task}
use Rattle.records.specs.contracts.record.Task as T
use Rattle.records.proofs.record.Task.TheLaws as T'

-- The machine value of nine records.
abbrev pub machs : List Task → Val
machs xs = only (array_vals (LL.vals T.the_type T'.the_laws) xs)

-- A list is nine records, with their machine value.
abbrev pub Nine : List Task → Type 0
Nine xs = Is (Array T.the_row 9) xs (machs xs ∷ [])

-- Nine records by value, as a parameter.
abbrev pub nine_records : {n : ℕ} → Handled n (plain (λ _. Array T.the_row 9))
nine_records {n} = record {
  stay = stay_none (λ _. Array T.the_row 9) yes;
  goes = λ 𝓛. Goes-none 𝓛 n (λ _. Array T.the_row 9) yes (λ κs x f. refl);
  spell = λ κs. array_vals (LL.vals T.the_type T'.the_laws);
  tells = λ κs. Array-Tells T.the_row (LL.vals T.the_type T'.the_laws) (LL.tells T.the_type T'.the_laws) 9;
  comes = silent (Array T.the_row 9) (λ x w. refl);
}

module _ {M : Type 1} {𝓤 : Ura M} (𝓛 : Logic 𝓤) where
  -- Records lie from a place on.
  abbrev pub lie : List Task → ℕ → ℕ → Fml
  lie xs b o = cells (mem T.the_row) xs b o

  -- Nine records in a local.
  abbrev pub whole_at : List Task → ℕ → Fml
  whole_at xs b = fat full_share (ty_array T'.mir 9) b 0 (machs xs)

  cut : (xs : List Task) (n b o : ℕ) → ent 𝓤 (sem 𝓛 (lie xs b o)) (sep 𝓤 (sem 𝓛 (lie (take n xs) b o)) (sem 𝓛 (lie (dropN n xs) b (place 32 o (length (take n xs))))))
  cut xs zero b o = qed 𝓛 (‵ (lie xs b o) ∷ []) ∵ nothing ! $ done !
  cut [] (suc n) b o = qed 𝓛 (‵ (lie [] b o) ∷ []) ∵ nothing ! $ done !
  cut (x ∷ xs) (suc n) b o =
      qed 𝓛 (‵ (lie (x ∷ xs) b o) ∷ []) ∵ fsplit ! $ move ! (1 ∷ []) $
      use1 𝓛 (‵ (lie (take n xs) b (o + 32)) ⊛ ‵ (lie (dropN n xs) b (place 32 (o + 32) (length (take n xs))))) (cut xs n b (o + 32)) $ split ! $ move ! (2 ∷ 0 ∷ []) $ fjoin ! $ done !

  glue : (zs ws : List Task) (b o : ℕ) → ent 𝓤 (sep 𝓤 (sem 𝓛 (lie zs b o)) (sem 𝓛 (lie ws b (place 32 o (length zs))))) (sem 𝓛 (lie (zs ++ ws) b o))
  glue [] ws b o = qed 𝓛 (‵ (lie [] b o) ∷ ‵ (lie ws b o) ∷ []) ∵ drop ! $ done !
  glue (z ∷ zs) ws b o =
      qed 𝓛 (‵ (lie (z ∷ zs) b o) ∷ ‵ (lie ws b (place 32 (o + 32) (length zs))) ∷ []) ∵ fsplit ! $ move ! (1 ∷ 2 ∷ []) $
      use2 𝓛 (‵ (lie (zs ++ ws) b (o + 32))) (glue zs ws b (o + 32)) $ move ! (1 ∷ 0 ∷ []) $ fjoin ! $ done !

  -- The first n of nine records, and the others.
  pub parted : (xs : List Task) (n b : ℕ) → Nine xs
      → ent 𝓤 (sem 𝓛 (whole_at xs b)) (sep 𝓤 (sem 𝓛 (lie (take n xs) b 0)) (sem 𝓛 (lie (dropN n xs) b (place 32 0 (length (take n xs))))))
  unfolding part_of
  parted xs n b is =
      qed 𝓛 (‵ (whole_at xs b) ∷ []) ∵ use1 𝓛 (‵ (cell_at full_share (Array T.the_row 9).mir (machs xs ∷ []) b 0)) (𝓛.laws.at_raw full_share (ty_array T'.mir 9) b 0 (machs xs)) $
      owned ! (Array T.the_row 9) (Is (Array T.the_row 9)) (Array-Makes 𝓛 T.the_row (LL.makes T.the_type T'.the_plain 𝓛) 9) xs (machs xs ∷ []) is $ move ! (1 ∷ 0 ∷ []) $ fjoin ! $
      fpack ! (List Val) (λ vs. fsep (cell_at full_share (Array T.the_row 9).mir vs b 0) ((Array T.the_row 9).own_val xs vs)) (machs xs ∷ []) $
      use1 𝓛 (‵ ((arr_parts (shares T.the_row) 9).part full_share xs b 0)) (Array-apart 𝓛 T.the_row full_share tt 9 xs b 0) $ fsplit ! $ drop ! $
      use1 𝓛 (‵ (lie xs b 0)) (whole_in 𝓛 T.the_row xs b 0) $ use1 𝓛 (‵ (lie (take n xs) b 0) ⊛ ‵ (lie (dropN n xs) b (place 32 0 (length (take n xs))))) (cut xs n b 0) $ split ! $ done !

  -- Nine records put together.
  pub joined : (zs ws : List Task) (b : ℕ) → length (zs ++ ws) ≡ 9
      → ent 𝓤 (sep 𝓤 (sem 𝓛 (lie zs b 0)) (sem 𝓛 (lie ws b (place 32 0 (length zs))))) (mean 𝓛 (given (Nine (zs ++ ws)) (‵ (whole_at (zs ++ ws) b))))
  unfolding part_of
  joined zs ws b long =
      qed 𝓛 (‵ (lie zs b 0) ∷ ‵ (lie ws b (place 32 0 (length zs))) ∷ []) ∵ use2 𝓛 (‵ (lie (zs ++ ws) b 0)) (glue zs ws b 0) $
      use1 𝓛 (‵ (row T.the_row full_share (zs ++ ws) b 0)) (whole_out 𝓛 T.the_row (zs ++ ws) b 0) $ feq_i ! ℕ (length (zs ++ ws)) 9 long $ fjoin ! $
      use1 𝓛 (‵ (part_at (Array T.the_row 9) full_share (zs ++ ws) b 0)) (Array-whole 𝓛 T.the_row full_share 9 (zs ++ ws) b 0) $ fpick ! (λ vs. fsplit ! $ move ! (1 ∷ []) $
      peeks ! (Array T.the_row 9) (Is (Array T.the_row 9)) (shows 𝓛 (Array T.the_row 9)) (zs ++ ws) vs (λ is. drop ! $
      let told = Array-Tells T.the_row (LL.vals T.the_type T'.the_laws) (LL.tells T.the_type T'.the_laws) 9 (zs ++ ws) vs is in
      rewrite ! 0 (λ (us : List Val). ‵ (cell_at full_share (Array T.the_row 9).mir us b 0)) told refl $
      use1 𝓛 (‵ (whole_at (zs ++ ws) b)) (𝓛.laws.raw_at full_share (ty_array T'.mir 9) b 0 (machs (zs ++ ws))) $ check ! (subst (Is (Array T.the_row 9) (zs ++ ws)) told is) $ done !))
