use Rattle.std.proofs.Common.{arith, rules, ℕ, ◌≡◌, ◌∙◌, ◌-◌, ◌++◌, length, take, drop, ap, sym, take-append-drop}
use Rattle.std.specs.Prelude.{true, false, Result, Ok, IsErr}
use Rattle.std.proofs.lemmas.List.{take_rest}
use Rattle.dk_outside.specs.declared.sink.SinkError.{SinkError}
use Rattle.dk_outside.specs.Written.{Writes}
use Rattle.dk_outside.proofs.WrittenLemmas.{second_ends}
use Rattle.dk_outside.proofs.sink.write_all_to.Goals as goal

pub returns : goal.returns
returns g c =
    let piece = c.args.piece.now in
    let n = c.in_ok-n.n in
    let wrote = c.in_ok-n.ensures in
    let rest = take (length piece - n) (drop n piece) in
    let parts : piece ≡ take n piece ++ rest = sym (take-append-drop n piece) ∙ ap (λ t. take n piece ++ t) (sym (take_rest piece n)) in
    let ok : Result ℕ SinkError = Ok n in
    let front : Writes {A = ℕ} {E = SinkError} (g.S.Sink.seen c.args.sink.now) (g.S.Sink.seen c.write.new.self) ok (take n piece) =
    record { ok = wrote.appended; err = tt; cause = λ (fails : IsErr ok). absurd (let no : false ≡ true = fails in cc); stays = wrote.stays (omega arith); faults = wrote.faults; same = wrote.same } in
    second_ends (take n piece) rest piece parts
    _ _ _ n c.write_rest.result front c.write_rest.ensures

pub returns-then-n-eq0 : goal.returns-then-n-eq0
returns-then-n-eq0 g c =
    let wrote = c.in_ok-n.ensures in
    record { ok = tt; err = (c.in_ok-n.n, wrote.part, wrote.appended); cause = search rules; stays = tt; faults = wrote.faults; same = wrote.same }
