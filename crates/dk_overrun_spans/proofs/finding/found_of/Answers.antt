use Rattle.std.proofs.Common.{ℕ, ◌≡◌, ◌<◌, ◌++◌, ◌∙◌, inl, inr, ap, sym, subst, refl, arith, rules, length, length-append, List}
use Rattle.dk_overrun_spans.specs.Found.{grown, owner_of}
use Rattle.dk_overrun_spans.proofs.Growing.{grown-short}
use Rattle.dk_overrun_spans.proofs.Searching.{IsSearched, searched-end, searched-more, searched-start}
use Rattle.dk_overrun_spans.proofs.finding.found_of.Goals as goal
use Rattle.dk_overrun_spans.proofs.finding.found_of.Goals.{then-loop-own-test+else-now-entries, else-loop-own-test}

pub loop-own-init : goal.loop-own-init
loop-own-init c =
    let es = c.args.entries.now in
    let o = owner_of c.args.row.now in
    let few : length es < 4294967295 = omega (arith, c.requires) in
    let none = c.new-ticks.ensures.items in
    record {
      searched = subst (λ (ts : List ℕ). IsSearched o es o.since c.fresh-own.result ts) (sym none) (searched-start c.row_law.ensures.start c.row_law.ensures.step o es few c.fresh-own.result c.fresh-own.ensures);
      most = (let size = ap length none in omega (arith, size));
    }

pub loop-own-preserved : goal.loop-own-preserved
loop-own-preserved c =
    let es = c.args.entries.now in
    let o = owner_of c.args.row.now in
    let few : length es < 4294967295 = omega (arith, c.requires) in
    let ticks = c.loop-own.ticks.items in
    let new = grown o.period c.loop-own.now c.loop-own.own.counts c.stepped-next.result.counts in
    let more : c.note.new.ticks.items ≡ ticks ++ new = c.in_ok-note.ensures ∙ ap (λ ts. ticks ++ ts) c.grown.ensures in
    record {
      searched =
          searched-more c.row_law.ensures.start c.row_law.ensures.step o es few c.loop-own.now c.loop-own.own c.stepped-next.result ticks c.note.new.ticks.items _ _
          c.loop-own.invariant.searched c.if-now-entries.true refl c.stepped-next.ensures more;
      most = (let size : c.len.result ≡ length ticks = search rules in
          let room = c.loop-own-test.true in
          let one = grown-short o.period c.loop-own.now c.loop-own.own.counts c.stepped-next.result.counts in
          let both = ap length more ∙ length-append ticks new in
          omega (arith, size, room, one, both));
    }

pub returns : goal.returns
returns c =
    let es = c.args.entries.now in
    let o = owner_of c.args.row.now in
    let few : length es < 4294967295 = omega (arith, c.requires) in
    let ticks = c.loop-own.ticks.items in
    let size : c.len.result ≡ length ticks = search rules in
    let ends = searched-end c.row_law.ensures.start c.row_law.ensures.step o es few c.loop-own.now c.args.row.now.counts.overran c.loop-own.own ticks c.loop-own.invariant.searched c.loop-own.invariant.most in
    elim c.loop-own-test.branch [
      | then-loop-own-test+else-now-entries w ↦ ends (inr (omega (arith, w.if-now-entries.false)))
      | else-loop-own-test w ↦ ends (inl (omega (arith, size, w.loop-own-test.false)))
    ]
