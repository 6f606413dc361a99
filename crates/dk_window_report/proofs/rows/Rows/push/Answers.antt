use Rattle.std.proofs.Common.{◌≡◌, ◌∙◌, sym, subst, arith, rules, length, true, false}
use Rattle.dk_window_report.specs.declared.late.Late.{Late}
use Rattle.dk_window_report.specs.Late.{AreUpTo}
use Rattle.dk_window_report.specs.Touched.{AreFound}
use Rattle.dk_window_report.proofs.Found.{up-to-more, found-more}
use Rattle.dk_window_report.proofs.rows.Rows.push.Goals.{then-is_next, else-is_next}
use Rattle.dk_window_report.proofs.rows.Rows.push.Goals as goal

pub returns-clause-placed : goal.returns-clause-placed
returns-clause-placed c =
    let old = c.args.self.now in
    let ls = old.lates.items in
    let late : Late = record { row = c.args.row; tick = c.args.tick } in
    let size : c.len.result ≡ length ls = search rules in
    record {
      before = subst (AreUpTo c.args.tick) (sym c.in_ok-push.ensures.items) (up-to-more c.args.tick ls late (omega arith) c.requires.before);
      found = λ known.
          elim c.if-is_next.branch [
            | then-is_next w ↦
                subst (AreFound c.add_place.new.families.items 0) (sym c.in_ok-push.ensures.items)
                (found-more old.families.items c.add_place.new.families.items 0 c.len.result ls late
                (c.in_ok-is_next.ensures w.if-is_next.true) (omega (arith, size)) (c.requires.found (sym w.self-is ∙ known)))
            | else-is_next w ↦ absurd (let both : false ≡ true = sym w.if-is_next.false ∙ sym w.self-is ∙ known in cc)
          ];
    }
