use Rattle.dk_ledger.proofs.Names.{lit<, ap, ◌≡◌, ◌∙◌, List, map, Option, Result, Ok, Err, IfOk, DrainsIf, split_text, split_has_more, split_pattern, YieldsList, YieldsList-from_take, items_from_drains, YieldsList-from_str_split, ArrayVec}
use Rattle.dk_ledger.proofs.words.words_in.Goals as goal

-- `collect` into a vector of a fixed capacity, where v reads each item
collected : {S A B E : Type 0} {steps : S → Option A → S → Type 0} {v : A → B} {s : S} {all : List B} (r : Result (ArrayVec A) E)
    → IfOk r (λ w. (xs : List A) × DrainsIf steps (Unit {0}) s xs × (w.items ≡ xs)) → YieldsList steps v s all → IfOk r (λ w. map v w.items ≡ all)
collected {S} {A} {B} {E} {steps} {v} (Ok w) d e = ap (map v) d.2 ∙ items_from_drains d.0 d.1 e
collected (Err x) d e = tt

pub returns : goal.returns
returns c =
    let source = c.take.ensures.source in
    collected _ c.collect.ensures.ran
    (YieldsList-from_take 12
    (YieldsList-from_str_split 32 c.args.line.now (lit< tt) (ap split_text source ∙ c.split.ensures.text) (ap split_has_more source ∙ c.split.ensures.has_more) (ap split_pattern source ∙ c.split.ensures.pattern))
    c.take.ensures.count)
