use Rattle.std.proofs.Common.{ℕ, ◌≡◌, ◌+◌, ◌∙◌, ap, sym, subst, List}
use Rattle.dk_window_report.specs.Late.{late_with, rows_at, AreUpTo}
use Rattle.dk_window_report.specs.Touched.{touched_by, changed_by, AreFound}
use Rattle.dk_window_report.proofs.Stepping.{entry-done}
use Rattle.dk_window_report.proofs.rows.Rows.step.Goals as goal

pub returns : goal.returns
returns c =
    let now = c.args.now in
    let e = c.args.entry in
    let r = c.args.self.now in
    let fs = r.families.items in
    let ls = r.lates.items in
    let is : c.change.new.lates.items ≡ changed_by (late_with now e) fs (touched_by r.known e) ls =
    c.change.ensures ∙ ap (λ (gs : List (List ℕ)). changed_by (late_with now e) gs c.touched_by-touched.result ls) c.as_slice.ensures.value
    ∙ ap (λ t. changed_by (late_with now e) fs t ls) c.touched_by-touched.ensures in
    let done = entry-done now e fs ls c.requires.placed.before r.known c.requires.placed.found in
    record {
      rows = ap (rows_at (now + 1)) is ∙ done.rows;
      placed = record {
        before = subst (AreUpTo (now + 1)) (sym is) done.before;
        found = λ known. subst (AreFound fs 0) (sym is) (done.found (c.requires.placed.found known));
      };
    }
