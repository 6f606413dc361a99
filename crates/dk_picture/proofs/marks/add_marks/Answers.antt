use Rattle.dk_picture.proofs.Names.{List, ◌∙◌, ap, LedgerLine, mark_text, marks_of}
use Rattle.std.specs.Prelude.{flat_map, string_bytes}
use Rattle.dk_picture.proofs.Adding.{flat_map-flat_map, same_added}
use Rattle.dk_picture.proofs.marks.add_marks.Goals as goal

pub returns : goal.returns
returns c =
    same_added c.add_each.result (string_bytes c.args.text.now) (string_bytes c.add_each.new.text) _ _
    (ap (λ (gs : List LedgerLine). flat_map (λ g. flat_map (mark_text c.args.frame c.args.span c.args.drawing.now) (marks_of c.args.header.now c.args.drawing.now.rows g)) gs) c.groups.ensures.groups
    ∙ flat_map-flat_map (mark_text c.args.frame c.args.span c.args.drawing.now) (marks_of c.args.header.now c.args.drawing.now.rows) c.args.drawing.now.groups)
    c.add_each.ensures
