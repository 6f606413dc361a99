-- The tick of an entry.
use Rattle.dk_audit.proofs.Names.{◌∙◌, ◌<◌, ap, length, subst, sym, MAX_TICKS, HasChosenLabel, Past, choice_at}
use Rattle.dk_audit.proofs.Ticks.{booked-at, judged-none, judged-refused, opened, refused-at}
use Rattle.dk_audit.proofs.ticking.judge.Goals as goal

pub book-requires : goal.book-requires
book-requires g c =
    opened c.args.entry c.choose-choice.result c.is_chosen.result c.obeys.result c.args.tables.now.past c.charge.new.self.past c.entries_follow.ensures
    c.choose-choice.ensures.chosen c.if-not-is_chosen.false c.is_chosen.ensures c.if-not-obeys.false c.obeys.ensures c.charge.ensures.past

pub returns-then-not-book : goal.returns-then-not-book
returns-then-not-book g c =
    let is =
    opened c.args.entry c.choose-choice.result c.is_chosen.result c.obeys.result c.args.tables.now.past c.charge.new.self.past c.entries_follow.ensures
    c.choose-choice.ensures.chosen c.if-not-is_chosen.false c.is_chosen.ensures c.if-not-obeys.false c.obeys.ensures c.charge.ensures.past in (
      subst (λ (q : Past). HasChosenLabel (choice_at q) c.args.entry.label) c.charge.ensures.past is.chose,
      judged-refused c.args.entry c.args.tables.now.past c.charge.new.self.past c.charge.ensures.past
          (refused-at c.args.entry c.book.result c.charge.new.self.past c.book.new.tables.past c.if-not-book.true c.book.ensures),
    )

pub close-requires-clause-whole : goal.close-requires-clause-whole
close-requires-clause-whole g c =
    (booked-at c.args.entry c.book.result c.charge.new.self.past c.book.new.tables.past c.if-not-book.false c.book.ensures).whole

pub close-requires-clause-room : goal.close-requires-clause-room
close-requires-clause-room g c =
    let books = booked-at c.args.entry c.book.result c.charge.new.self.past c.book.new.tables.past c.if-not-book.false c.book.ensures in
    subst (λ n. n < MAX_TICKS) (sym (ap length books.entries ∙ ap (λ (q : Past). length q.entries) c.charge.ensures.past)) c.requires.room

pub open-requires : goal.open-requires
open-requires g c = record { entry = c.args.entry; closed = ap (λ (q : Past). q.tick) c.close.ensures.past }

pub returns : goal.returns
returns g c =
    judged-none c.args.entry c.args.tables.now.past c.charge.new.self.past c.book.new.tables.past c.close.new.self.past c.open.new.self.past c.charge.ensures.past
    (booked-at c.args.entry c.book.result c.charge.new.self.past c.book.new.tables.past c.if-not-book.false c.book.ensures) c.close.ensures.past c.open.ensures.past
