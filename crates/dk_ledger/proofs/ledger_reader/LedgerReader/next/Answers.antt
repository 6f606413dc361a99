use Rattle.dk_ledger.proofs.Names.{ℕ, List, ◌≡◌, ◌∙◌, ◌++◌, arith, ap, sym, Entry, entries_of, HasRead, entries_in, LedgerFault, nat_tests}
use Rattle.dk_ledger.proofs.NextItem.{if_ok}
use Rattle.dk_ledger.proofs.Readings.{no_ticks, some_ticks, some_last, same_heading, header_printable, is_given, comes_next, passed_on, some_of}
use Rattle.dk_ledger.proofs.ledger_reader.LedgerReader.next.Goals as goal

pub returns-in_err-take_line-clause-line : goal.returns-in_err-take_line-clause-line
returns-in_err-take_line-clause-line c = λ n bytes es e read.
    c.take_line.ensures.line n bytes es
    (c.in_err-take_line.was ∙ passed_on c.from_residual.result c.in_err-take_line.field-0.0 (LedgerFault.Line n) c.from_residual.ensures.1 e)
    (c.loop-self.invariant.read bytes es read)

pub returns-then-ticks-clause-given : goal.returns-then-ticks-clause-given
returns-then-ticks-clause-given c =
    let old = c.loop-self.self in
    let new = c.take_line.new.self in
    let taken = if_ok c.take_line.result c.in_ok-take_line.field-0 _ c.in_ok-take_line.was c.take_line.ensures.taken c.if-branch.true in
    let before = c.ticks-ticks.ensures ∙ ap (λ r. r.kept.ticks) c.self.view_is in
    let after = c.ticks.ensures ∙ ap (λ r. r.kept.ticks) c.self-in-loop-self.view_is in
    let last = c.last.ensures ∙ ap (λ r. r.kept.last) c.self-in-loop-self.view_is in
    some_of c.last.result (λ line. (bytes : List ℕ) (es : List Entry) → HasRead bytes es c.args.self.now → HasRead bytes (es ++ entries_of line) new)
    (λ line is bytes es read.
    let now = c.loop-self.invariant.read bytes es read in
    let further = taken bytes es now in
    let other : new.kept.ticks ≡ old.kept.ticks → ⊥ = λ same. c.if-ticks.true (after ∙ same ∙ now.ticks ∙ sym read.ticks ∙ sym before) in
    (some_ticks bytes es old new now further other line (sym last ∙ is)).0)

pub returns-then-ticks-clause-fits : goal.returns-then-ticks-clause-fits
returns-then-ticks-clause-fits c =
    let old = c.loop-self.self in
    let new = c.take_line.new.self in
    let taken = if_ok c.take_line.result c.in_ok-take_line.field-0 _ c.in_ok-take_line.was c.take_line.ensures.taken c.if-branch.true in
    let before = c.ticks-ticks.ensures ∙ ap (λ r. r.kept.ticks) c.self.view_is in
    let after = c.ticks.ensures ∙ ap (λ r. r.kept.ticks) c.self-in-loop-self.view_is in
    let last = c.last.ensures ∙ ap (λ r. r.kept.last) c.self-in-loop-self.view_is in
    let bytes = c.requires.0 in
    let es = c.requires.1 in
    let read = c.requires.2 in
    let now = c.loop-self.invariant.read bytes es read in
    let further = taken bytes es now in
    let other : new.kept.ticks ≡ old.kept.ticks → ⊥ = λ same. c.if-ticks.true (after ∙ same ∙ now.ticks ∙ sym read.ticks ∙ sym before) in
    let less = if_ok c.take_line.result c.in_ok-take_line.field-0 _ c.in_ok-take_line.was c.take_line.ensures.shorter c.if-branch.true in
    let most = c.loop-self.invariant.shorter in
    some_of c.last.result _
    (λ line is.
    let given = some_ticks bytes es old new now further other line (sym last ∙ is) in
    is_given c.args.self.now old new line given.1 given.2 (now.ticks ∙ sym read.ticks) (omega (arith, less, most)))

pub returns-then-ticks-clause-end : goal.returns-then-ticks-clause-end
returns-then-ticks-clause-end c = λ none bytes es read.
    let old = c.loop-self.self in
    let new = c.take_line.new.self in
    let taken = if_ok c.take_line.result c.in_ok-take_line.field-0 _ c.in_ok-take_line.was c.take_line.ensures.taken c.if-branch.true in
    let before = c.ticks-ticks.ensures ∙ ap (λ r. r.kept.ticks) c.self.view_is in
    let after = c.ticks.ensures ∙ ap (λ r. r.kept.ticks) c.self-in-loop-self.view_is in
    let last = c.last.ensures ∙ ap (λ r. r.kept.last) c.self-in-loop-self.view_is in
    let now = c.loop-self.invariant.read bytes es read in
    let further = taken bytes es now in
    let other : new.kept.ticks ≡ old.kept.ticks → ⊥ = λ same. c.if-ticks.true (after ∙ same ∙ now.ticks ∙ sym read.ticks ∙ sym before) in
    absurd (some_last bytes es old new now further other (sym last ∙ none))

pub returns-then-ticks-clause-comes : goal.returns-then-ticks-clause-comes
returns-then-ticks-clause-comes c = λ bytes es read.
    comes_next bytes es c.last.result c.args.self.now c.take_line.new.self read (returns-then-ticks-clause-given c) (returns-then-ticks-clause-fits c) (returns-then-ticks-clause-end c)

pub returns-then-ticks-clause-heading : goal.returns-then-ticks-clause-heading
returns-then-ticks-clause-heading c = λ some.
    let old = c.loop-self.self in
    let new = c.take_line.new.self in
    let taken = if_ok c.take_line.result c.in_ok-take_line.field-0 _ c.in_ok-take_line.was c.take_line.ensures.taken c.if-branch.true in
    let before = c.ticks-ticks.ensures ∙ ap (λ r. r.kept.ticks) c.self.view_is in
    let after = c.ticks.ensures ∙ ap (λ r. r.kept.ticks) c.self-in-loop-self.view_is in
    let last = c.last.ensures ∙ ap (λ r. r.kept.last) c.self-in-loop-self.view_is in
    let bytes = c.requires.0 in
    let es = c.requires.1 in
    let read = c.requires.2 in
    let now = c.loop-self.invariant.read bytes es read in
    let further = taken bytes es now in
    let other : new.kept.ticks ≡ old.kept.ticks → ⊥ = λ same. c.if-ticks.true (after ∙ same ∙ now.ticks ∙ sym read.ticks ∙ sym before) in
    same_heading bytes es old new now further (let a = now.ticks in let b = read.ticks in omega (arith, some, a, b)) ∙ c.loop-self.invariant.heading some

pub loop-self-preserved : goal.loop-self-preserved
loop-self-preserved c =
    let old = c.loop-self.self in
    let new = c.take_line.new.self in
    let taken = if_ok c.take_line.result c.in_ok-take_line.field-0 _ c.in_ok-take_line.was c.take_line.ensures.taken c.if-branch.true in
    let before = c.ticks-ticks.ensures ∙ ap (λ r. r.kept.ticks) c.self.view_is in
    let after = c.ticks.ensures ∙ ap (λ r. r.kept.ticks) c.self-in-loop-self.view_is in
    let less = if_ok c.take_line.result c.in_ok-take_line.field-0 _ c.in_ok-take_line.was c.take_line.ensures.shorter c.if-branch.true in
    let most = c.loop-self.invariant.shorter in
    let reads : (bytes : List ℕ) (es : List Entry) → HasRead bytes es c.args.self.now → HasRead bytes es new =
    λ bytes es read.
    let now = c.loop-self.invariant.read bytes es read in
    no_ticks bytes es old new now (taken bytes es now) (sym after ∙ c.if-ticks.false ∙ before ∙ read.ticks ∙ sym now.ticks) in
    let bytes = c.requires.0 in
    let es = c.requires.1 in
    let read = c.requires.2 in
    let now = c.loop-self.invariant.read bytes es read in
    record {
      reading = (bytes, es, reads bytes es read);
      read = reads;
      shorter = omega (arith, less, most);
      heading = λ some. same_heading bytes es old new now (taken bytes es now) (let a = now.ticks in let b = read.ticks in omega (arith, some, a, b)) ∙ c.loop-self.invariant.heading some;
    }

pub returns-then-ticks-clause-printable : goal.returns-then-ticks-clause-printable
returns-then-ticks-clause-printable c =
    let old = c.loop-self.self in
    let bytes = c.requires.0 in
    let es = c.requires.1 in
    let now = c.loop-self.invariant.read bytes es c.requires.2 in
    let taken = if_ok c.take_line.result c.in_ok-take_line.field-0 _ c.in_ok-take_line.was c.take_line.ensures.taken c.if-branch.true in
    let further = taken bytes es now in
    header_printable bytes (es ++ entries_in further.item) c.take_line.new.self further.read

pub returns-clause-printable : goal.returns-clause-printable
returns-clause-printable c = grind (arith, nat_tests, if_ok, header_printable)
