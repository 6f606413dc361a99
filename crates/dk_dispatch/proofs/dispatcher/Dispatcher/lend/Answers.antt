use Rattle.dk_dispatch.proofs.Names.{subst, sym, Phase, Choice, Passes}
use Rattle.dk_dispatch.proofs.Lending.{lend-owes}
use Rattle.dk_dispatch.proofs.Stretching.{goes, rows-later, stands-later}
use Rattle.dk_dispatch.proofs.dispatcher.Dispatcher.lend.Goals as goal

pub lend-requires : goal.lend-requires
lend-requires c =
    let owes = lend-owes c.lending_makes_the_recount.ensures.passes c.lending_makes_the_recount.ensures.counts c.windows_are_the_configurations.ensures.ends c.wishes_are_the_pasts.ensures.amount
    c.choice_is_the_pasts.ensures c.charging_makes_the_recount.ensures.may c.holds_are_the_pasts.ensures.left c.holds_are_the_pasts.ensures.mutex
    c.self.inside.history.past c.self.inside.tables _ c.self.view_is c.requires.ready c.self.invariant c.are_sound.ensures.sound c.are_sound.ensures.families
    c.args.thread c.args.source c.args.ticks c.requires.may c.requires.some c.requires.room in
    record { wish = owes.wish; counts = owes.counts; room = owes.room; known = owes.known; within = owes.within }

pub invariant_of-self : goal.invariant_of-self
invariant_of-self c =
    let owes = lend-owes c.lending_makes_the_recount.ensures.passes c.lending_makes_the_recount.ensures.counts c.windows_are_the_configurations.ensures.ends c.wishes_are_the_pasts.ensures.amount
    c.choice_is_the_pasts.ensures c.charging_makes_the_recount.ensures.may c.holds_are_the_pasts.ensures.left c.holds_are_the_pasts.ensures.mutex
    c.self.inside.history.past c.self.inside.tables _ c.self.view_is c.requires.ready c.self.invariant c.are_sound.ensures.sound c.are_sound.ensures.families
    c.args.thread c.args.source c.args.ticks c.requires.may c.requires.some c.requires.room in
    stands-later _ _ _ c.self.view_is c.requires.ready c.self.invariant (Choice.Slack c.args.thread c.args.source Phase.Body) _ _
    (subst (Passes (Choice.Slack c.args.thread c.args.source Phase.Body) c.args.ticks c.self.inside.tables) (sym c.lend.ensures) owes.passes) c.requires.room _ c.then-self-inside.ensures

pub returns-clause-goes : goal.returns-clause-goes
returns-clause-goes c =
    let owes = lend-owes c.lending_makes_the_recount.ensures.passes c.lending_makes_the_recount.ensures.counts c.windows_are_the_configurations.ensures.ends c.wishes_are_the_pasts.ensures.amount
    c.choice_is_the_pasts.ensures c.charging_makes_the_recount.ensures.may c.holds_are_the_pasts.ensures.left c.holds_are_the_pasts.ensures.mutex
    c.self.inside.history.past c.self.inside.tables _ c.self.view_is c.requires.ready c.self.invariant c.are_sound.ensures.sound c.are_sound.ensures.families
    c.args.thread c.args.source c.args.ticks c.requires.may c.requires.some c.requires.room in
    goes _ _ _ c.self.view_is c.requires.ready c.self.invariant (Choice.Slack c.args.thread c.args.source Phase.Body) _ _
    (subst (Passes (Choice.Slack c.args.thread c.args.source Phase.Body) c.args.ticks c.self.inside.tables) (sym c.lend.ensures) owes.passes) c.requires.room

pub returns-clause-rows : goal.returns-clause-rows
returns-clause-rows c =
    let owes = lend-owes c.lending_makes_the_recount.ensures.passes c.lending_makes_the_recount.ensures.counts c.windows_are_the_configurations.ensures.ends c.wishes_are_the_pasts.ensures.amount
    c.choice_is_the_pasts.ensures c.charging_makes_the_recount.ensures.may c.holds_are_the_pasts.ensures.left c.holds_are_the_pasts.ensures.mutex
    c.self.inside.history.past c.self.inside.tables _ c.self.view_is c.requires.ready c.self.invariant c.are_sound.ensures.sound c.are_sound.ensures.families
    c.args.thread c.args.source c.args.ticks c.requires.may c.requires.some c.requires.room in
    rows-later _ _ _ c.self.view_is c.requires.ready c.self.invariant (Choice.Slack c.args.thread c.args.source Phase.Body) _ _
    (subst (Passes (Choice.Slack c.args.thread c.args.source Phase.Body) c.args.ticks c.self.inside.tables) (sym c.lend.ensures) owes.passes) c.requires.room
