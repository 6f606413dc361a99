use Rattle.std.proofs.Common.{rules, ◌≡◌, length, ◌+◌, ◌-◌, sym, ◌∙◌, arith}
use Rattle.std.specs.Str.{bytes_eq}
use Rattle.csv.specs.Records.{fields_of}
use Rattle.dk_times.proofs.Places.{failed, no_gap, nowhere, passed}
use Rattle.dk_times.proofs.columns.place_of.Goals.{in-Some+else-eq, in_default}
use Rattle.dk_times.proofs.columns.place_of.Goals as goal

pub loop-place-init : goal.loop-place-init
loop-place-init c = search (rules, arith)

pub returns-then-eq : goal.returns-then-eq
returns-then-eq c =
    passed (λ field. bytes_eq field c.args.name.now) (fields_of c.args.row.now) c.loop-place.place c.in-Some.field.now
    (search rules) c.loop-place.invariant (sym c.eq.ensures ∙ c.if-eq.true)

pub loop-place-preserved : goal.loop-place-preserved
loop-place-preserved c = elim c.match-get.branch [
  | in-Some+else-eq w ↦
      failed (λ field. bytes_eq field c.args.name.now) (fields_of c.args.row.now) c.loop-place.place w.in-Some.field.now
      (search rules) c.loop-place.invariant (sym w.eq.ensures ∙ w.if-eq.false)
  | in_default w ↦ no_gap (fields_of c.args.row.now) c.loop-place.place (search (rules, arith)) (search rules)
]

pub returns : goal.returns
returns c =
    let end : c.loop-place.place ≡ length (fields_of c.args.row.now) = search (rules, arith) in
    nowhere (λ field. bytes_eq field c.args.name.now) (fields_of c.args.row.now) (rw end at c.loop-place.invariant)
