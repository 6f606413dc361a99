use Rattle.dk_vcd.proofs.holders.+write_holders.Given as goal

abbrev pub decreases-write_holders : goal.decreases-write_holders
decreases-write_holders g l = l.below
