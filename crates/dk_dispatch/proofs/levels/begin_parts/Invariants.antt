use Rattle.dk_dispatch.proofs.Names.{◌≡◌, ◌-◌, length, below, numbers, parts_begun}
use Rattle.dk_dispatch.proofs.levels.begin_parts.Given as goal

abbrev pub invariant-loop-level : goal.invariant-loop-level
invariant-loop-level l = record {
  many : length l.kernel ≡ length l.fn.kernel;
  parts : parts_begun l.releases.items l.windows (numbers l.level (length l.releases.items - l.level)) l.kernel
      ≡ parts_begun l.releases.items l.windows (below (length l.releases.items)) l.fn.kernel;
}
