-- The names of other libraries and of this crate's specs that proofs here speak of.
pub use Rattle.dk_asm.specs.Causes.{causes_from, causes_of, fault_of, first_cause}
pub use Rattle.dk_asm.specs.Grammar.{AreOperands, IsComment, IsLabelPart, IsLine, IsNamed, IsPiece, IsStatement, IsStatementPart, Parts, Statement}
pub use Rattle.dk_asm.specs.Listing.{bytes_text, group_text, groups, listing, named, operand_text, operand_texts, text_of}
pub use Rattle.dk_asm.specs.Operands.{IsLabel, IsNegative, IsNumberUpTo, IsOperand, Operand, negative, register, up_to}
pub use Rattle.dk_asm.specs.Places.{ArePlaces, HasNoFault, IsFirstFault, cause_by, is_unplaced, place, place_in, place_of, place_on, stands_before}
pub use Rattle.dk_asm.specs.Ranges.{FitPlaces, FitsLine, FitsPart, FitsPlace, FitsStatement, value_by, values_by}
pub use Rattle.dk_asm.specs.Reading.{begins_lower, behind_word, cut_at, in_front, is_solid, mnemonic_named, mnemonics, only_word, parts, pieces_of, read_bytes, read_instruction, read_line, read_number, read_operand, read_parts, read_piece, read_pieces, read_register, read_rest, read_signed, read_some, read_statement, read_value, skipped, split_label}
pub use Rattle.dk_asm.specs.Reasons.{IsAmiss, Reason, is_wrong, reason, trimmed, without_end, wrong_behind, wrong_end, wrong_instruction, wrong_operand, wrong_rest}
pub use Rattle.dk_asm.specs.Seen.{operand, operands, operands as seen_operands, seen_line, seen_lines}
pub use Rattle.dk_asm.specs.Source.{AreRead, Assembled, IsCode, IsLineCode, IsOutcome, IsRead, IsStatementCode, Line, Outcome, cause_at, cause_of, has_instruction, has_label, has_part, has_unknown, instructions, is_form, is_one_too_many, is_outside, is_part, is_range, is_short, is_twice, is_unknown, label_on, label_value, lines_of, operands_of, operands_on, statement_on, value_of, without_empty_end}
pub use Rattle.dk_asm.specs.Table.{Written, row_of, with_values, written}
pub use Rattle.dk_asm.specs.Words.{AreBlanks, IsNumber, is_blank, is_numeral}
pub use Rattle.dk_asm.specs.Writing.{behind}
pub use Rattle.dk_asm.specs.declared.TheConstants.{MAX_INSTRUCTIONS, MAX_SOURCE_BYTES}
pub use Rattle.dk_asm.specs.declared.fault.LineFault.{LineFault}
pub use Rattle.dk_asm.specs.declared.kind.Kind.{Kind}
pub use Rattle.dk_asm.specs.declared.labels.Place.{Place}
pub use Rattle.dk_asm.specs.declared.table.Mnemonic.{Mnemonic}
pub use Rattle.dk_config.specs.Rules.{is_lower, is_name, is_word}
pub use Rattle.dk_config.specs.declared.TheConstants.{MAX_PROGRAM_BYTES}
pub use Rattle.dk_isa.specs.Table.{HasRegisters, Row, bytes_of, given, instruction_of, is_register, read_code, read_row, table}
pub use Rattle.dk_isa.specs.declared.Instr.{Instr}
pub use Rattle.std.proofs.Common.{All, BTreeMap, Bool, IfSome, List, None, Option, Some, [], add-one, ap, append-nil, append_assoc, arith, below_more, cond, drop, drop-cons, false, get_or, inl, inr, length, length-append, map, min, refl, rules, subst, suc, sym, take, true, zero, ℕ, ⊎_elim, ◌%◌, ◌*◌, ◌++◌, ◌+◌, ◌-◌, ◌/◌, ◌<◌, ◌^◌, ◌∙◌, ◌∷◌, ◌≡◌, ◌≢◌, ◌≤◌}
pub use Rattle.std.proofs.lemmas.Bool.{cases_lt, le-leb, leb-true, lt-ltb, ltb-false, ltb-true}
pub use Rattle.std.proofs.lemmas.Bool.Decides.{nat_tests}
pub use Rattle.std.proofs.lemmas.Fmt.{decimal_digit, decimal_nonempty, digits_decimal, digits_value-decimal, first_decimal, length-decimal-le}
pub use Rattle.std.proofs.lemmas.List.{drop_at, length-drop, length-map, length-take-le, take-append-drop, take-map, take_all, take_at, take_more}
pub use Rattle.std.proofs.lemmas.List.Splits.{length-slice_split, slice_split_at, slice_split_none}
pub use Rattle.std.proofs.lemmas.Result.{on_ok_weaker}
pub use Rattle.std.proofs.lemmas.Slice.Eq.{bytes_eq-Decides}
pub use Rattle.std.specs.Borrow.{Bor}
pub use Rattle.std.specs.Char.{digit_value, is_ascii_digit}
pub use Rattle.std.specs.List.{AllByRecursion, before_first, join_with_byte, list_all, list_any, onto_first, position_or_len, slice_split}
pub use Rattle.std.specs.Option.{option_and_then, option_map, option_map_or, option_or}
pub use Rattle.std.specs.Prelude.{codes, decimal, find, flat_map, is_none, is_some, nat_le, nat_lt, not, position, replicate, slice_get, slice_index, unwrap_or, ◌&&◌, ◌==◌, ◌||◌, ◌⊎◌}
pub use Rattle.std.specs.Str.{bytes_eq}
pub use Rattle.std.specs.Str.Parse.{digits_value}
