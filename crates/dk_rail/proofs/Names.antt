-- The names of other libraries and of this crate's specs that proofs here speak of.
pub use Prim.Native.Nat.{◌*◌, ◌^◌}
pub use Rattle.dk_rail.specs.Links.{IsLinked, IsPath, IsPushed, IsStep, IsUnlinked, follow, list_at, lists_of, next, owner, prev}
pub use Rattle.dk_rail.specs.Ownership.{IsFilled, cells_lent, cells_own, deed_owns, fit, slot, slot_lent, slots, slots_lent}
pub use Rattle.dk_rail.specs.Places.{numbers}
pub use Rattle.dk_rail.specs.Queues.{AreQuiet, Queues, holder, holds, pushed, queue_at, unlinked, without}
pub use Rattle.dk_rail.specs.Sound.{IsSound}
pub use Rattle.std.proofs.Common.{Bool, IfSome, IsNone, IsSome, List, Option, Some, ap, arith, cond, drop, eqb, ext_get_or, false, get_or, get_or-set_other, get_or-set_same, inl, inr, is_some, length, length-set, map, not, refl, replicate, set, slice_get, slice_index, suc, sym, true, zero, ℕ, ◌+◌, ◌-◌, ◌<◌, ◌||◌, ◌∙◌, ◌≡◌, ◌≢◌, ◌≤◌, ◌⊎◌}
pub use Rattle.std.proofs.RawLayout.{as_raw, as_written}
pub use Rattle.std.proofs.RcSteps.{Good, first_Good, word, word-Good}
pub use Rattle.std.proofs.VecSteps.Shapes.{after, arm_body, head}
pub use Rattle.std.proofs.alloc.Calls.{Al, Answer-typed, Answered, Gives, Gives-Gives, Gives-goes, Goes-blank, Takes, Takes-gives, Takes-goes, answers, at_gives, at_takes, gives_key, second, takes_key, token}
pub use Rattle.std.proofs.lemmas.Bool.{eq-eqb, eqb-false, eqb-true, le-ltb, lt-ltb}
pub use Rattle.std.proofs.lemmas.Bool.Decides.{Decides-ltb, eqb_tells, nat_tests}
pub use Rattle.std.proofs.lemmas.List.{get_or-map, get_or-replicate, get_or_past, length-map, length-replicate, map-set}
pub use Rattle.std.proofs.lemmas.Map.Keys.{IsDistinct-cons, IsDistinct-head, IsDistinct-tail}
pub use Rattle.std.proofs.mem.Param.{El, R, args, el_x, elτ}
pub use Rattle.std.proofs.ptr.Rows.{one_below, times_below}
pub use Rattle.std.specs.List.{AllByRecursion, IsDistinct, position_from}
pub use Rattle.std.specs.Mem.{type_size}
pub use Rattle.std.specs.Prelude.{Err, IfOk, None, Ok, nat_lt, unwrap_or}
pub use base.Fml.{Fml, GName, Incl, Incl-trans, Lft, Share, fat, fbor, ffalse, flft, fobs, froom, fsep, ftrue}
pub use base.Fraction.{full_share}
pub use base.Logic.{SProp, emp, ent, ex, guard, id⊢, never, sep, snd∗, via}
pub use contract.BorrowLft.{meet_⊑_left, ◌⊑◌}
pub use contract.Monad.{Fun, fact}
pub use contract.Running.{tables}
pub use denote.Builtin.{RefMutOf, RefOf, unit, usize}
pub use denote.Exit.{no, yes}
pub use denote.Laws.{Is, Typed, shows}
pub use denote.Memory.{hidden_shr, mem, part_at}
pub use denote.Param.{bounded, layout, param}
pub use denote.Param.Laws.{Laws, param_laws}
pub use denote.Param.Shared.{copy_shared}
pub use denote.RattleType.{RattleType, RowLaws, Valss, owns}
pub use denote.RawPtr.{Ptr, RawPtr, block_ptr, in_a_block, null_ptr, ptr_val}
pub use denote.Ref.{Bor, MutBor, MutRef, ShrRef}
pub use denote.SharingLaws.{beside_shr_laws, nothing_shr_laws, said_shr_laws}
pub use denote.Signature.{plain}
pub use denote.Steps.{closes, nothing, opens, owned, peeks}
pub use denote.Struct.Laws.{field_copy}
pub use denote.Struct.Lending.{Lends, Lends-both, Lends-false, Lends-nothing, Lends-said, of_Lends}
pub use denote.Struct.Struct.{Shape, Struct, Struct-Makes, within}
pub use denote.Struct.Tuple.{Tuple, tuple_type}
pub use denote.Triple.Call.{calls_at, calls_at_last}
pub use denote.Triple.Carry.{spared}
pub use denote.Triple.Clauses.{Clauses, Ended, closing}
pub use denote.Triple.Entry.{on_entry}
pub use denote.Triple.Spec.{Meets, triple_of}
pub use denote.Triple.Statement.{Triple}
pub use denote.Triple.Table.{entered, run_framed}
pub use denote.Triple.Walked.{Goes-dropped, Goes-ref, Stays, ends_at, needs, says, stay_dropped, stay_ref, walk_Meets, walk_of}
pub use lib.Dec.{T, lit<}
pub use lib.ListN.{length-take, take, take-append-drop}
pub use mathlib.Core.List.{[], ◌++◌, ◌∷◌}
pub use mathlib.Core.Path.{subst}
pub use mir.MapTy.{inst_fn}
pub use mir.Syntax.{Args, Body, Fn, Ty, a_type, dcons, dnil, named, ty_array, ty_unit, w64}
pub use mir.Val.{Val, WT, has_ty, of_list, vcons, vint, vnil, vptr, vstruct, vunit}
pub use native.Mathlib.Nat.{suc-mul, zero-mul}
pub use prog.Capped.{capped_fits, capped_is}
pub use prog.Memory.{Memory, align, capped, size}
pub use prog.Routine.{Routine}
pub use prog.Wp.{Calls, Env, Loops, Tables, Wp, WpFn, after_seq, at_return}
pub use seplogic.Ra.Ura.{Ura}
pub use sound.WpLaws.{FmC, WpFn-mono, fm_of}
pub use types.ByLocal.{alloc_all, env, free_all, get, get_in, get_tag, give_at, is, lands_as, lands_last, look_at, pass_all, sets, sets_last, take_at, through}
pub use types.Kit.{ !, Goal, Item, Post as After, Seq, Step, any_q, at_ret, await, by, check, done, drop as skip, feq_i, feq_l, fjoin, fjoin3, flt_i, flt_l, fpack, fpick, frame, fsplit, fsplit3, given, group, join, keep, later, learn, move, pick, qed, raw, rewrite, show, some, split, step, suffices, use0, use1, use2, use3, ‵, ⋆, ◌$◌, ◌∵◌, ◌⊛◌}
pub use types.Logic.{Logic, sem}
pub use types.Part.{agg, sub, whole}
pub use types.Run.{addr, align_word, and_then, assigns_last, bin, blocks, enter, exec, first, fld, init, lit, no_more, of_opd, returns, size_lit, size_word, stop, switches_on, unit_lit}
