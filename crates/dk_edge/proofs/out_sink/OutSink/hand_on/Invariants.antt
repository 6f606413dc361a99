use Rattle.std.proofs.Common.{◌≡◌, [], length}
use Rattle.dk_edge.specs.OutSink.{handed_to, held_back, out_view}
use Rattle.dk_edge.proofs.out_sink.OutSink.hand_on.Given as goal

abbrev pub invariant-loop-self : goal.invariant-loop-self
invariant-loop-self g l = record {
  written : (out_view g.S.Sink.seen l.self).written ≡ (out_view g.S.Sink.seen l.fn.self).written;
  stays : (out_view g.S.Sink.seen l.self).faults ≡ (out_view g.S.Sink.seen l.fn.self).faults;
  same : (out_view g.S.Sink.seen l.self).capacity ≡ (out_view g.S.Sink.seen l.fn.self).capacity;
  still : held_back l.fn.self ≡ [] → handed_to l.self ≡ handed_to l.fn.self;
  none : held_back l.fn.self ≡ [] → held_back l.self ≡ [];
}

abbrev pub decreases-loop-self : goal.decreases-loop-self
decreases-loop-self g l = length (held_back l.self)
