-- What walks import of the program logic, in one place.
pub use mathlib.Core.Path.{◌≡◌, refl, ap, sym, ◌∙◌, subst}
pub use mathlib.Core.Bool.{Bool}
pub use Prim.Native.Nat.{ℕ, ◌<◌, ◌≤◌, ◌^◌, ◌*◌, ◌+◌, ◌-◌}
pub use mathlib.Core.List.{[], ◌∷◌, List, ◌++◌}
pub use lib.ListN.{length, get_or, set, length-set, take, length-append, length-drop, drop as dropN}
pub use seplogic.Ra.Ura.{Ura}
pub use base.Fraction.{full_share}
pub use mir.Syntax.{named, erased, mut, w64, ty_int, ty_ref, ty_ptr, ty_bool}
pub use mir.Val.{Val, vint, vptr, vbool, vunit, Fits}
pub use base.Logic.{SProp, ent, emp, via, fst∗, id⊢}
pub use base.Fml.{GName, flft, fat, fobs, fbor, flent}
pub use prog.Memory.{Memory}
pub use prog.Routine.{Routine}
pub use prog.Wp.{Heap, Calls, Loops, WpFn, Tables}
pub use ghost.Atoms.{Atoms}
pub use contract.Monad.{Fun, fact_i}
pub use contract.Lifetimes.{Lfts, Shares}
pub use contract.Running.{tables}
pub use types.Kit.{‵, raw, ◌⊛◌, some, later, given, ◌$◌, ◌∵◌, !, by, move, keep, drop, use0, use1, use2, use3, split, pick, learn, fsplit, fjoin, fjoin3, feq_i, await, rewrite, fsplit3}
pub use types.Tokens.{lft_new, lft_end}
pub use types.Run.{look, look_raw, init, store, store_raw, stop, hop, fld, from, load, bin, lit, addr, of_opd, and_then, no_more, assigns, land, first, branches, skips, returns, returns_within, enter, alloc1, alloc0, params1, pass1, pass0}
pub use types.Part.{agg, whole, sub, look_in}
pub use sound.WpLaws.{FmC}
pub use denote.RattleType.{flat}
pub use denote.Laws.{Is, shows}
pub use denote.Memory.{mem, pointee}
pub use denote.Plain.{uint_Lawful, uint_Tells}
pub use denote.Builtin.{u8, u64, usize}
pub use denote.Ref.{Bor, MutBor, MutRef}
pub use denote.Slice.{slice_ty, slice_val, MutSlice, Room, heres, coded_holeys, shr_slice_at, mut_slice_at}
pub use denote.Lend.{Held, lends_slice, slice_back}
pub use denote.Index.{place, place_is, elem_out, elem_put, opens_slice, closes_slice}
pub use denote.Shadow.{pure_i}
pub use denote.Signature.{plain, types_at}
pub use denote.Steps.{owned, peeks, only, opens, closes}
pub use denote.Triple.Entry.{Args, on_entry}
pub use denote.Triple.Spec.{triple_of}
pub use denote.Triple.Statement.{Contract, Triple}
pub use denote.Triple.Call.{calls_at}
pub use denote.Triple.Table.{cited}
pub use denote.Triple.Walked.{needs}
pub use native.Mathlib.Omega.{arith}
pub use types.SemTy.{Arr}
pub use lib.Seq.{length-take-le}
pub use denote.Array.{Array, Array-Lawful, Array-Makes}
pub use borrow.Author.Rules.{scaled_Fits}
pub use lib.Dec.{leb→le, nleb→lt}
pub use denote.Struct.Steps.{spelt}
pub use denote.Enum.Laws.{lawful as Enum-Lawful, makes as Enum-Makes}
pub use denote.Struct.Laws.{lawful as Struct-Lawful, makes as Struct-Makes, tells as Struct-Tells, vals as struct-vals, owed as struct-owed}
