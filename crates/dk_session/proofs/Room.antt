-- A sink in memory with room for the output doesn't fail.
use Rattle.dk_session.proofs.Names.{◌≡◌, ◌∙◌, ◌<◌, ◌≤◌, ◌++◌, ℕ, zero, suc, List, length, take, refl, sym, ap, arith, Some, length-take, mem_bytes, mem_capacity, mem_sink_view, sink_faults, Appends, MemSink, Status, IsOutput, Files, Leaves, StandsInOutput, HasRoom}
use Rattle.dk_inputs.specs.declared.status.Status.TheVariants as status

-- a sink that isn't full has no faults
unfull : (faults filled capacity : ℕ) → (0 < faults → filled ≡ capacity) → filled < capacity → faults ≡ 0
unfull zero filled capacity full room = refl
unfull (suc n) filled capacity full room = absurd (let same : filled ≡ capacity = full (omega arith) in omega arith)

-- it is full where it has a fault
abbrev pub FailsOnlyFull : MemSink → Type 0
FailsOnlyFull s = 0 < sink_faults s → length (mem_bytes s) ≡ mem_capacity s

module _ (words : List (List ℕ)) (at : Files) (a b : MemSink) (room : HasRoom words at a) (before : FailsOnlyFull a) (after : FailsOnlyFull b) where
  -- so many bytes of some output were appended
  fits : (text piece : List ℕ) (ended : Status) → IsOutput words at text ended → length piece ≤ length text → Appends (Some (mem_bytes a)) (Some (mem_bytes b)) piece
      → Some (mem_capacity b) ≡ Some (mem_capacity a) → sink_faults b ≡ sink_faults a
  fits text piece ended stands short appended stays =
      let less = room.room text ended stands in
      let bytes : mem_bytes b ≡ mem_bytes a ++ piece = cc in
      let filled : length (mem_bytes b) ≡ length piece = ap length bytes ∙ ap (λ w. length (w ++ piece)) room.empty in
      let none : length (mem_bytes a) ≡ 0 = ap length room.empty in
      let same : mem_capacity b ≡ mem_capacity a = cc in
      let old : sink_faults a ≡ 0 = unfull (sink_faults a) (length (mem_bytes a)) (mem_capacity a) before (omega arith) in
      let new : sink_faults b ≡ 0 = unfull (sink_faults b) (length (mem_bytes b)) (mem_capacity b) after (omega arith) in
      new ∙ sym old

  pub room_kept : (s : Status) → Leaves mem_sink_view (StandsInOutput (Some at) words) a b s → sink_faults b ≡ sink_faults a
  room_kept status.DepotFault left = ap sink_faults (left.silent tt)
  room_kept status.NoMemory left = ap sink_faults (left.silent tt)
  room_kept status.SinkFault left =
      let (text, (n, within, appended), (ended, stands)) = left.cut refl in
      let short : length (take n text) ≤ length text = omega (arith, length-take n text) in
      fits text (take n text) ended stands short appended left.capacity_stays
  room_kept _ left =
      let (text, appended, stands) = left.whole tt in
      fits text text _ stands (omega arith) appended left.capacity_stays
