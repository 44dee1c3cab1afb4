-- The parameters of a function: what comes back of each from a call, and how a walk handles its own. Every law is for all
-- signatures.
use mathlib.Core.Path.{◌≡◌, refl, subst, sym}
use mathlib.Core.List.{[], ◌∷◌, List}
use Prim.Native.Nat.{ℕ}
use seplogic.Ra.Ura.{Ura}
use lib.ListN.{length}
use mir.Syntax.{w64}
use mir.Val.{Val}
use base.Logic.{ent, emp, guard, guard_i}
use base.Fml.{Fml, ftrue, fres}
use types.Logic.{Logic, sem}
use contract.Lifetimes.{Lfts, Within}
use types.Kit.{‵, ◌$◌, ◌∵◌, !, qed, move, drop, fsplit, feq_l, check, done}
use denote.RattleType.{RattleType}
use denote.Laws.{Is, Ises, Tells, Spells, Tellss, valss}
use denote.Plain.{uint_vals, uint_Tells}
use denote.Builtin.{usize}
use denote.Ref.{mut_vals, mut_Tells}
use denote.Slice.{shr_slice_vals, mut_slice_vals, mut_slice_Tells, shr_slice_Tells, finally}
use denote.Exit.{yes, Last, left}
use denote.Signature.{Slot, Signature, plain, types_at, shr_slice_of, mut_slice_of, mut_ref_to, name_of, meet_at}
use denote.Triple.End.{Kepts}
use denote.Triple.Entry.{Args, Vals}
use denote.Triple.Walked.{Stay, Stays, stay_none, stay_none_slice, stay_slice, gave_slice, stay_ref, gave_ref, Goes, Goes-none, Goes-none_slice, Goes-slice, Goes-gave_slice, Goes-ref, Goes-gave_ref, AllGo}

-- ---- What comes back of a parameter that was passed

pub record Comes (n : ℕ) (s : Slot n) : Type 2 where
  pub back : (κs : Lfts n) (x : (s.row κs).Denot) → Last ((s.row κs).exit yes) x → Fml
  pub known : (κs : Lfts n) (x : (s.row κs).Denot) → Last ((s.row κs).exit yes) x → Type 0
  pub opens : {M : Type 1} {𝓤 : Ura M} (𝓛 : Logic 𝓤) (κs : Lfts n) (x : (s.row κs).Denot) (w : Last ((s.row κs).exit yes) x)
      → ent 𝓤 (sem 𝓛 (left ((s.row κs).exit yes) x w)) (guard 𝓤 (known κs x w) (sem 𝓛 (back κs x w)))

module _ {n : ℕ} where
  -- Nothing comes back of what is no `&mut`.
  abbrev pub nothing_back : (s : Slot n) → ((κs : Lfts n) (x : (s.row κs).Denot) (w : Last ((s.row κs).exit yes) x) → left ((s.row κs).exit yes) x w ≡ ftrue) → Comes n s
  nothing_back s silent = record {
    back = λ κs x w. ftrue;
    known = λ κs x w. Unit {0};
    opens = λ {𝓤 = 𝓤} 𝓛 κs x w. subst (λ (F : Fml). ent 𝓤 (sem 𝓛 F) (guard 𝓤 (Unit {0}) (emp 𝓤))) (sym (silent κs x w)) (guard_i 𝓤 (Unit {0}) (emp 𝓤) tt);
  }

  abbrev pub silent : (R : RattleType) → ((x : R.Denot) (w : Last (R.exit yes) x) → left (R.exit yes) x w ≡ ftrue) → Comes n (plain (λ _. R))
  silent R says = nothing_back (plain (λ _. R)) (λ κs x w. says x w)

  -- The last list of a `&mut [T]`, which is as long as the list passed.
  abbrev pub list_back : (j : ℕ) (ok : Within n j) (R : RattleType) → Comes n (mut_slice_of (j ∷ []) ok (plain (λ _. R)))
  list_back j ok R = record {
    back = λ κs x w. finally R x.ghost_name w;
    known = λ κs x w. length w ≡ length x.now;
    opens = λ 𝓛 κs x w.
        qed 𝓛 (‵ (left (((mut_slice_of {n = n} (j ∷ []) ok (plain (λ _. R))).row κs).exit yes) x w) ∷ []) ∵ fsplit ! $ move ! (1 ∷ []) $ drop ! $
        fsplit ! $ move ! (1 ∷ []) $ feq_l ! (λ e. check ! e $ done !);
  }

  -- The last value of a `&mut T`.
  abbrev pub value_back : (j : ℕ) (ok : Within n j) (R : RattleType) → Comes n (mut_ref_to (j ∷ []) ok (plain (λ _. R)))
  value_back j ok R = record {
    back = λ κs x w. fres x.ghost_name (R.coded.code w);
    known = λ κs x w. Unit {0};
    opens = λ 𝓛 κs x w.
        qed 𝓛 (‵ (left (((mut_ref_to {n = n} (j ∷ []) ok (plain (λ _. R))).row κs).exit yes) x w) ∷ []) ∵ fsplit ! $ move ! (1 ∷ []) $ drop ! $ check ! tt $ done !;
  }

  abbrev pub AllCome : List (Slot n) → Type 2
  AllCome [] = Unit {2}
  AllCome (s ∷ ss) = Comes n s × AllCome ss

-- ---- The parameters of a walked function

-- How a walk handles a parameter: what it has of it at exit, that this is enough, and the machine value that it is passed as.
pub record Handled (n : ℕ) (s : Slot n) : Type 2 where
  pub stay : Stay s yes
  pub goes : {M : Type 1} {𝓤 : Ura M} (𝓛 : Logic 𝓤) → Goes 𝓛 n s yes stay
  pub spell : (κs : Lfts n) → (s.row κs).Denot → List Val
  pub tells : (κs : Lfts n) → Tells (s.row κs) (Is (s.row κs)) (spell κs)
  pub comes : Comes n s

module _ {n : ℕ} where
  -- A `&[T]`.
  abbrev pub shared_slice : (j : ℕ) (ok : Within n j) (R : RattleType) → Handled n (shr_slice_of (j ∷ []) ok (plain (λ _. R)))
  shared_slice j ok R = record {
    stay = stay_none_slice (j ∷ []) ok (plain (λ _. R)) yes;
    goes = λ 𝓛. Goes-none_slice 𝓛 n (j ∷ []) ok (plain (λ _. R)) yes;
    spell = λ κs. shr_slice_vals;
    tells = λ κs. shr_slice_Tells (name_of (j ∷ [])) (meet_at n (j ∷ []) ok κs) R;
    comes = nothing_back (shr_slice_of (j ∷ []) ok (plain (λ _. R))) (λ κs x w. refl);
  }

  -- A `&mut [T]` that is passed on for good, and one that is kept.
  abbrev pub given_slice : (j : ℕ) (ok : Within n j) (R : RattleType) → Handled n (mut_slice_of (j ∷ []) ok (plain (λ _. R)))
  given_slice j ok R = record {
    stay = gave_slice (j ∷ []) ok (plain (λ _. R));
    goes = λ 𝓛. Goes-gave_slice 𝓛 n j ok (plain (λ _. R));
    spell = λ κs. mut_slice_vals;
    tells = λ κs. mut_slice_Tells (name_of (j ∷ [])) (meet_at n (j ∷ []) ok κs) R;
    comes = list_back j ok R;
  }

  abbrev pub kept_slice : (j : ℕ) (ok : Within n j) (R : RattleType) → Handled n (mut_slice_of (j ∷ []) ok (plain (λ _. R)))
  kept_slice j ok R = record {
    stay = stay_slice (j ∷ []) ok (plain (λ _. R));
    goes = λ 𝓛. Goes-slice 𝓛 n j ok (plain (λ _. R));
    spell = λ κs. mut_slice_vals;
    tells = λ κs. mut_slice_Tells (name_of (j ∷ [])) (meet_at n (j ∷ []) ok κs) R;
    comes = list_back j ok R;
  }

  -- A `&mut T` that is passed on for good, and one that is kept.
  abbrev pub given_record : (j : ℕ) (ok : Within n j) (R : RattleType) → Handled n (mut_ref_to (j ∷ []) ok (plain (λ _. R)))
  given_record j ok R = record {
    stay = gave_ref (j ∷ []) ok (plain (λ _. R));
    goes = λ 𝓛. Goes-gave_ref 𝓛 n j ok (plain (λ _. R));
    spell = λ κs. mut_vals;
    tells = λ κs. mut_Tells (name_of (j ∷ [])) (meet_at n (j ∷ []) ok κs) R;
    comes = value_back j ok R;
  }

  abbrev pub kept_record : (j : ℕ) (ok : Within n j) (R : RattleType) → Handled n (mut_ref_to (j ∷ []) ok (plain (λ _. R)))
  kept_record j ok R = record {
    stay = stay_ref (j ∷ []) ok (plain (λ _. R));
    goes = λ 𝓛. Goes-ref 𝓛 n j ok (plain (λ _. R));
    spell = λ κs. mut_vals;
    tells = λ κs. mut_Tells (name_of (j ∷ [])) (meet_at n (j ∷ []) ok κs) R;
    comes = value_back j ok R;
  }

  -- A `usize`.
  abbrev pub number : Handled n (plain (λ _. usize))
  number = record {
    stay = stay_none (λ _. usize) yes;
    goes = λ 𝓛. Goes-none 𝓛 n (λ _. usize) yes (λ κs x f. refl);
    spell = λ κs. uint_vals w64;
    tells = λ κs. uint_Tells w64;
    comes = nothing_back (plain (λ _. usize)) (λ κs x w. refl);
  }

  abbrev pub Handleds : List (Slot n) → Type 2
  Handleds [] = Unit {2}
  Handleds (s ∷ ss) = Handled n s × Handleds ss

  -- What is said of all parameters, one after another.
  abbrev pub keeps_of : (ss : List (Slot n)) → Kepts ss
  keeps_of [] = tt
  keeps_of (s ∷ ss) = (yes, keeps_of ss)

  abbrev pub stays_of : (ss : List (Slot n)) → Handleds ss → Stays ss (keeps_of ss)
  stays_of [] ps = tt
  stays_of (s ∷ ss) ps = (ps.0.stay, stays_of ss ps.1)

  abbrev pub spells_of : (ss : List (Slot n)) → Handleds ss → (κs : Lfts n) → Spells (types_at ss κs)
  spells_of [] ps κs = tt
  spells_of (s ∷ ss) ps κs = (ps.0.spell κs, spells_of ss ps.1 κs)

  pub tells_of : (ss : List (Slot n)) (ps : Handleds ss) (κs : Lfts n) → Tellss (types_at ss κs) (Ises (types_at ss κs)) (spells_of ss ps κs)
  tells_of [] ps κs = tt
  tells_of (s ∷ ss) ps κs = (ps.0.tells κs, tells_of ss ps.1 κs)

  pub goes_of : {M : Type 1} {𝓤 : Ura M} (𝓛 : Logic 𝓤) (ss : List (Slot n)) (ps : Handleds ss) → AllGo 𝓛 n ss (keeps_of ss) (stays_of ss ps)
  goes_of 𝓛 [] ps = tt
  goes_of 𝓛 (s ∷ ss) ps = (ps.0.goes 𝓛, goes_of 𝓛 ss ps.1)

  abbrev pub comes_of : (ss : List (Slot n)) → Handleds ss → AllCome ss
  comes_of [] ps = tt
  comes_of (s ∷ ss) ps = (ps.0.comes, comes_of ss ps.1)

-- The machine values that a function's arguments are passed as.
abbrev pub passed_as : (S : Signature) → Handleds S.params → (κs : Lfts S.lifetimes) → Args S κs → Vals S κs
passed_as S ps κs a = valss (types_at S.params κs) (spells_of S.params ps κs) a
