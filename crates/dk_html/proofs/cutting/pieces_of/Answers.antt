use Rattle.std.proofs.Common.{sym, map, List, ℕ, ap, ◌∙◌}
use Rattle.std.specs.Borrow.{Bor}
use Rattle.std.proofs.lemmas.List.{map-append}
use Rattle.dk_html.proofs.Cuts.{last_more, one_more}
use Rattle.dk_html.proofs.cutting.pieces_of.Goals as goal

abbrev texts : List (Bor (List ℕ)) → List (List ℕ)
texts pieces = map (λ p. p.now) pieces

pub loop-piece-preserved : goal.loop-piece-preserved
loop-piece-preserved c =
    one_more c.args.byte (texts c.loop-piece.found.items) (texts c.push.new.self.items) c.loop-piece.rest.now c.args.text.now c.in-Some.piece.now c.in-Some.behind.now
    (sym c.in-Some.ensures) (ap texts c.in_ok-push-in-Some.ensures.items ∙ map-append (λ p. p.now) c.loop-piece.found.items _) c.loop-piece.invariant

pub returns-in-None : goal.returns-in-None
returns-in-None c =
    last_more c.args.byte (texts c.loop-piece.found.items) (texts c.push-in-None.new.self.items) c.loop-piece.rest.now c.args.text.now
    (sym c.in-None.ensures) (ap texts c.in_ok-push-in-None.ensures.items ∙ map-append (λ p. p.now) c.loop-piece.found.items _) c.loop-piece.invariant
