use Rattle.std.proofs.Common.{List, ◌≡◌, subst}
use Rattle.std.specs.Prelude.{IfSome}
use Rattle.dk_ledger.specs.declared.line.LedgerLine.{LedgerLine as Line}
use Rattle.dk_ledger.specs.Readable.{Journal, IsReadable}
use Rattle.dk_ledger.proofs.NextItem.{if_ok}
use Rattle.dk_ledger.proofs.Readings.{some_of, some_is}
use Rattle.dk_groups.specs.Groups.{groups}
use Rattle.dk_groups.specs.Cutting.{Cutting, HasGiven, HasPassed}
use Rattle.dk_groups.proofs.NextLine.{has_passed, all_given}
use Rattle.dk_groups.proofs.group_reader.GroupReader.next_line.Goals as goal

pub returns-clause-passed : goal.returns-clause-passed
returns-clause-passed c =
    let old = c.self.inside.reader in
    let new = c.next.new.self in
    let from = c.self.inside.from in
    let to = c.self.inside.to in
    let next = c.in-Ok.next in
    subst (λ (o : Cutting). IfSome next (λ line. (j : Journal) (gs : List Line) → IsReadable j → HasGiven j gs o
    → HasPassed j gs o (record { reading = new; from = from; to = to }) line)) c.self.view_is
    (some_of next _ (λ line is j gs readable before.
    has_passed j gs from to old new line readable before
    (some_is next line _ is (if_ok c.next.result next _ c.in-Ok.is c.next.ensures.fits))
    (some_is next line _ is (if_ok c.next.result next _ c.in-Ok.is c.next.ensures.given))
    (if_ok c.next.result next _ c.in-Ok.is c.next.ensures.heading)))

pub returns-clause-end : goal.returns-clause-end
returns-clause-end c = λ none.
    let old = c.self.inside.reader in
    let from = c.self.inside.from in
    let to = c.self.inside.to in
    let next = c.in-Ok.next in
    subst (λ (o : Cutting). (j : Journal) (gs : List Line) → IsReadable j → HasGiven j gs o → gs ≡ groups o.from o.to j.entries) c.self.view_is
    (λ j gs readable before. all_given j gs from to old c.next.new.self.kept.heading readable before
    (if_ok c.next.result next _ c.in-Ok.is c.next.ensures.end none))
