use Rattle.dk_ledger.proofs.Names.{◌≡◌, ◌∙◌, ◌-◌, [], ◌∷◌, ◌++◌, ap, arith, rules, append_assoc, append-nil, sym, replicate, None, Entry}
use Rattle.dk_ledger.proofs.reading.push_entries.Goals as goal
use Rattle.dk_ledger.proofs.EntryLists.{next_turn}

pub loop-turn-preserved : goal.loop-turn-preserved
loop-turn-preserved c =
    let quiet : Entry = record { label = c.args.line.label; event = None } in
    let pushed : c.push.new.self.items ≡ c.loop-turn.entries.items ++ quiet ∷ [] = search rules in
    pushed ∙ ap (λ es. es ++ quiet ∷ []) c.loop-turn.invariant
    ∙ append_assoc c.args.entries.now.items (replicate (c.loop-turn._turn - 1) quiet) (quiet ∷ [])
    ∙ ap (λ es. c.args.entries.now.items ++ es) (next_turn quiet c.loop-turn._turn c.loop-turn.auto._turn)

pub loop-turn-init : goal.loop-turn-init
loop-turn-init c = sym (append-nil c.args.entries.now.items)

pub returns : goal.returns
returns c =
    let quiet : Entry = record { label = c.args.line.label; event = None } in
    let last : Entry = record { label = c.args.line.label; event = c.args.line.event } in
    let pushed : c.push-2.new.self.items ≡ c.loop-turn.entries.items ++ last ∷ [] = search rules in
    let all : c.loop-turn._turn ≡ c.args.line.count = omega arith in
    pushed ∙ ap (λ es. es ++ last ∷ []) c.loop-turn.invariant
    ∙ append_assoc c.args.entries.now.items (replicate (c.loop-turn._turn - 1) quiet) (last ∷ [])
    ∙ ap (λ n. c.args.entries.now.items ++ (replicate (n - 1) quiet ++ last ∷ [])) all
