-- The names of other libraries and of this crate's specs that proofs here speak of.
pub use Rattle.dk_config.proofs.CheckedConfig.{within_limits}
pub use Rattle.dk_config.proofs.FirstBroken.{append_none, append_some}
pub use Rattle.dk_config.proofs.Passing.{both_pass}
pub use Rattle.dk_config.specs.Checked.{BreaksNoRule}
pub use Rattle.dk_config.specs.Configuration.{Configuration}
pub use Rattle.dk_config.specs.Mutex.{Mutex}
pub use Rattle.dk_config.specs.Rules.{all_tests}
pub use Rattle.dk_config.specs.Tests.{Test, each_row, first_broken, test_of}
pub use Rattle.dk_config.specs.declared.TheConstants.{MAX_PROCESSES, MAX_PROGRAM_BYTES}
pub use Rattle.dk_config.specs.declared.fault.ConfigFault.{ConfigFault}
pub use Rattle.dk_config.specs.declared.fault.Field.{Field}
pub use Rattle.dk_config.specs.declared.fault.Section.{Section}
pub use Rattle.dk_config.specs.declared.rows.Costs.{Costs}
pub use Rattle.dk_config.specs.declared.rows.LevelRow.{LevelRow}
pub use Rattle.dk_config.specs.declared.rows.ProcessRow.{ProcessRow}
pub use Rattle.dk_faults.proofs.Broken.{broken-row, rows_added, then_more}
pub use Rattle.dk_faults.specs.Faults.{broken}
pub use Rattle.dk_loader.specs.Keys.{HasFewRows, breaks, field_tests, key_name, row_tests, rule_number, rule_tests, section_tests}
pub use Rattle.dk_loader.specs.Look.{all_texts, elements, items_list, keys_of, number_at, rows_at, version_of}
pub use Rattle.dk_loader.specs.Printed.{IsSmall, are_small_costs, config_members, costs_members, insert_member, is_small_level, is_small_mutex, is_small_process, level_members, mutex_members, process_members}
pub use Rattle.dk_loader.specs.Programs.{CountsReads, Gives, ReadsAll, ReadsOne, TakesAll, TakesOne, Took, before_others, bytes_before, bytes_read, loading, program_from, program_in, programs_from}
pub use Rattle.dk_loader.specs.Reading.{HasCountedRows, answer_of, config_of, costs_in, document, level_in, mutex_in, process_in, reading, reading_of, shaped_of, table_at, table_of, text_of}
pub use Rattle.dk_loader.specs.Shape.{costs_unknown, costs_wrong, in_table, in_table_at, level_row_wrong, level_unknown, missing_tests, mutex_row_wrong, mutex_unknown, process_row_wrong, process_unknown, shape_tests, top_unknown, top_wrong, unknown_tests, wrong_tests}
pub use Rattle.dk_loader.specs.Workload.{Workload}
pub use Rattle.dk_loader.specs.declared.fault.LoadFault.{LoadFault}
pub use Rattle.dk_loader.specs.declared.keys.Version.{Version}
pub use Rattle.dk_loader.specs.declared.shape.Rule.{Rule}
pub use Rattle.dk_outside.specs.Counts.{Rises}
pub use Rattle.dk_outside.specs.Files.{CountsStray, IsReading}
pub use Rattle.dk_outside.specs.Views.{DepotView}
pub use Rattle.std.proofs.Common.{Bool, Equal, Global, Greater, Less, List, Ordering, String, Vec, [], ap, append_assoc, arith, cond, drop, false, get_or, inl, inr, length, length-append, map, nat_cmp, refl, rules, string_bytes, subst, suc, sym, take, true, zero, ℕ, ◌*◌, ◌++◌, ◌+◌, ◌-◌, ◌<◌, ◌^◌, ◌||◌, ◌∙◌, ◌∷◌, ◌≡◌, ◌≢◌, ◌≤◌}
pub use Rattle.std.proofs.lemmas.Bool.{and_parts, cases_Bool}
pub use Rattle.std.proofs.lemmas.Bool.Decides.{nat_tests}
pub use Rattle.std.proofs.lemmas.List.{append-nil, drop_all, drop_more, length-drop, length-map, length-take, map-append, map_more, take_all}
pub use Rattle.std.proofs.lemmas.List.Elements.{All-push}
pub use Rattle.std.proofs.lemmas.List.Folds.{list_all-map, list_all_more}
pub use Rattle.std.proofs.lemmas.List.Sums.{sum_by-append}
pub use Rattle.std.proofs.lemmas.Str.{IsUtf8-from_is_utf8, IsUtf8-string_bytes, is_utf8-from_IsUtf8}
pub use Rattle.std.specs.BTreeMap.{insert_entry}
pub use Rattle.std.specs.Char.{is_digit}
pub use Rattle.std.specs.Cmp.Lexicographic.{slice_cmp}
pub use Rattle.std.specs.List.{list_all, list_any, prefix_len}
pub use Rattle.std.specs.Map.{keys_of as map_keys}
pub use Rattle.std.specs.Option.{option_map_or}
pub use Rattle.std.specs.Ordering.{match_ordering}
pub use Rattle.std.specs.Prelude.{Err, IfOk, IfSome, IsErrOf, None, Ok, Option, Result, Some, codes, encode_utf8, if◌then◌else◌, is_some, nat_le, nat_lt, option_and_then, option_map, option_to_list, slice_index, sum_by, unwrap_or, ◌&&◌, ◌==◌}
pub use Rattle.std.specs.Str.{is_utf8}
pub use Rattle.std.specs.Str.Parse.{digits_value}
pub use Rattle.std.specs.String.{string_cmp}
pub use Rattle.toml.proofs.Views.{table_get, view-Array, view-Boolean, view-String, view-Table}
pub use Rattle.toml.specs.Data.{Data, Items, Members, array, as_array, depth, get_member, item, items_depth, members_depth, no_items, push_item, same_key, string, table}
pub use Rattle.toml.specs.Parse.{after_byte, after_element, atom, expression, header_key, items, key_equals, keyval, line, lines, members, parse_document, read_map, scalar_data, skip_bom, val}
pub use Rattle.toml.specs.Tables.{Definition, Document, Edit, Expression, Node, Nodes, along_dots, along_header, array_table, at_found, at_key, by_dot, by_header, close, close_node, define, dot_node, dotted, get_node, header, header_node, implicit, insert, key_value, new_node, no_nodes, node, open_array, open_table, put, redefine, replace, std_table, value}
pub use Rattle.toml.specs.View.{array_view, items_of, items_view, members_view, table_view, view}
pub use Rattle.toml.specs.declared.value.Value.{Array, Table, Value}
pub use Rattle.toml_parser.specs.Lexical.{Read, backslash, comma, dot, equals, first, is_bare, is_ws, left_brace, left_bracket, right_brace, right_bracket, skip_blank, skip_from, skip_lines, skip_turn, skip_ws, split_while, starts_newline}
pub use Rattle.toml_parser.specs.Numbers.{unquoted, word_len, word_value}
pub use Rattle.toml_parser.specs.Strings.{Key, after_piece, at_delims, body, escape, escape_char, hex_escape, hex_len, is_plain, is_scalar, key, key_after, one_line, prepend, quoted, recursion_limit, simple_escape, simple_key, special, starts_string, trim_newline}
pub use Rattle.toml_parser.specs.declared.scalar.Scalar.{Scalar}
