use Rattle.dk_ledger.proofs.Names.{◌≡◌, ◌≤◌, ◌+◌, ◌++◌, List, ℕ, Result, Ok, Err, OnOk, Some, SinkError, Entry, Heading, IsAfter, Progress, last_after_stretch, stretch_of, nat_tests, arith}
use Rattle.dk_ledger.proofs.Stretching.{after_stretch, closed_stretch}
use Rattle.dk_ledger.proofs.run_writer.RunWriter.stretch.Goals as goal

after_ok : (h : Heading) (r : Result (Unit {0}) SinkError) (es : List Entry) (w next : Progress) (e : Entry) (count : ℕ) → 1 ≤ count → IsAfter es w
    → OnOk r (next ≡ record { entries = w.entries + count; last = Some (last_after_stretch w.last w.entries count e) })
    → OnOk r (IsAfter (es ++ stretch_of count e) next)
after_ok h (Ok x) es w next e count some after is = after_stretch h es w after e count next some is
after_ok h (Err x) es w next e count some after is = tt

pub returns-clause-after : goal.returns-clause-after
returns-clause-after g c = grind (arith, nat_tests, after_ok)

pub returns-clause-text : goal.returns-clause-text
returns-clause-text g c = λ es after. closed_stretch c.args.header.now es c.args.self.now.progress after c.args.entry c.args.count c.requires.some
