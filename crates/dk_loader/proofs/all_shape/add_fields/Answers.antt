use Rattle.dk_loader.proofs.Names.{◌∙◌, ◌++◌, ap, get_or, option_to_list, each_row, test_of, table_view, broken, rows_added, breaks, rule_number}
use Rattle.dk_config.specs.declared.fault.Field.TheVariants as field
use Rattle.dk_loader.proofs.AllBroken.{one_test, place_more, tests_of_fields}
use Rattle.dk_loader.proofs.all_shape.add_fields.Goals as goal

pub loop-field-preserved : goal.loop-field-preserved
loop-field-preserved c =
    let ms = table_view c.args.table.now in
    let tests = tests_of_fields c.args.rule c.args.section c.args.version c.args.i ms in
    let f = get_or c.args.fields.now c.loop-field.field-index field.Version in
    place_more tests c.args.fields.now c.loop-field.field-index field.Version c.loop-field.found.items c.add.new.found.items
    (c.args.found.now.items ++ broken (each_row tests 0 c.args.fields.now)) (option_to_list c.field_fault.result) c.loop-field-test.true
    (ap option_to_list c.field_fault.ensures ∙ one_test (test_of (rule_number c.args.rule) c.args.section c.args.i f (breaks c.args.rule c.args.section c.args.version f ms)))
    c.in_ok-add.ensures c.loop-field.invariant

pub returns : goal.returns
returns c =
    let tests = tests_of_fields c.args.rule c.args.section c.args.version c.args.i (table_view c.args.table.now) in
    rows_added tests c.args.fields.now c.loop-field.field-index c.loop-field.found.items (c.args.found.now.items ++ broken (each_row tests 0 c.args.fields.now))
    c.loop-field-test.false c.loop-field.invariant
