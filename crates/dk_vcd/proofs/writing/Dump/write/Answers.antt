use Rattle.std.proofs.Common.{ℕ, List, ◌≡◌, ◌∙◌, ◌++◌, [], take, reverse, ap, sym, subst, refl}
use Rattle.std.specs.Prelude.{None}
use Rattle.dk_ledger.specs.Heading.{Heading}
use Rattle.dk_groups.specs.Groups.{groups}
use Rattle.dk_groups.specs.Cutting.{ComesNext}
use Rattle.dk_groups.specs.Writing.{Puts}
use Rattle.dk_groups.proofs.Going.{cut_short, then_puts}
use Rattle.dk_groups.proofs.Texts.{nothing_put}
use Rattle.dk_holds.specs.Holds.{AreHolders}
use Rattle.dk_overrun_spans.specs.Marks.{AreMarks}
use Rattle.dk_overrun_spans.specs.Overruns.{overruns}
use Rattle.dk_vcd.specs.Changes.{changes_text}
use Rattle.dk_vcd.specs.Holders.{holder_before}
use Rattle.dk_vcd.specs.Dumps.{Dumping, head_text, tail_text, vcd_text}
use Rattle.dk_vcd.proofs.writing.Dump.write.Goals as goal

pub returns-in_err-write_head : goal.returns-in_err-write_head
returns-in_err-write_head g c = λ j from to readable dump.
    let rest = changes_text j.heading j.entries None (groups from to j.entries) ++ tail_text to in
    let held = holder_before j.entries from in
    let own_is = ap (λ (d : Dumping). d.heading) c.self.view_is ∙ dump.heading in
    let holders = subst (λ (d : Dumping). AreHolders (reverse (take from j.entries)) d.holders) (sym c.self.view_is) dump.holders in
    cut_short (vcd_text from to j.heading j.entries) []
    (g.S.Sink.seen c.args.sink.now) (g.S.Sink.seen c.args.sink.now) (g.S.Sink.seen c.write_head.new.sink) _ c.from_residual.result (head_text c.self.inside.header held) rest c.from_residual.ensures.1
    (ap (λ (h : Heading). head_text h held ++ rest) (sym own_is))
    (nothing_put (g.S.Sink.seen c.args.sink.now).written) refl refl (c.in_err-write_head.ensures (reverse (take from j.entries)) holders)

pub returns : goal.returns
returns g c = λ j from to readable dump.
    let view = c.self.view_is in
    let inside = c.self.inside in
    let text : ℕ → ℕ → List ℕ = λ n m. changes_text j.heading j.entries None (groups n m j.entries) in
    let rest = text from to ++ tail_text to in
    let held = holder_before j.entries from in
    let own_is = ap (λ (d : Dumping). d.heading) view ∙ dump.heading in
    let first = subst (λ (d : Dumping). ComesNext j [] d.first d.groups) (sym view) dump.first in
    let holders = subst (λ (d : Dumping). AreHolders (reverse (take from j.entries)) d.holders) (sym view) dump.holders in
    let from_is = ap (λ (d : Dumping). d.groups.from) view ∙ dump.from in
    let to_is = ap (λ (d : Dumping). d.groups.to) view ∙ dump.to in
    let end_is = ap (λ (d : Dumping). d.end) view ∙ dump.end in
    let are = subst (λ (d : Dumping). AreMarks (overruns j.heading j.entries) d.marks) (sym view) dump.marks in
    let put = c.write_changes.ensures j readable first (subst (λ n. AreHolders (reverse (take n j.entries)) inside.holders) (sym from_is) holders) are in
    let same : text inside.groups.from inside.groups.to ++ tail_text inside.end ≡ rest =
    ap (λ n. text n inside.groups.to ++ tail_text inside.end) from_is ∙ ap (λ n. text from n ++ tail_text inside.end) to_is ∙ ap (λ n. text from to ++ tail_text n) end_is in
    then_puts (vcd_text from to j.heading j.entries) (head_text inside.header held)
    (g.S.Sink.seen c.args.sink.now) (g.S.Sink.seen c.write_head.new.sink) (g.S.Sink.seen c.write_changes.new.sink) _ c.write_changes.result rest
    (ap (λ (h : Heading). head_text h held ++ rest) (sym own_is))
    (c.in_ok-write_head.ensures (reverse (take from j.entries)) holders)
    (subst (Puts (g.S.Sink.seen c.write_head.new.sink) (g.S.Sink.seen c.write_changes.new.sink) c.write_changes.result) same put)
