-- How many parts the tables keep.
use Rattle.dk_dispatch.proofs.Names.{ℕ, ◌≡◌, ◌∙◌, List, length, ap, length-map, Configuration, below, length-numbers, Entry, Tables, IsRecount, kernel_part}

-- the kernel has a part for each level
pub kernel-length : (c : Configuration) (now : ℕ) (past : List Entry) (d : Tables) → IsRecount c now past d → length d.kernel ≡ length c.levels
kernel-length c now past d is = ap length is.kernel ∙ length-map (below (length c.levels)) (kernel_part c now past) ∙ length-numbers 0 (length c.levels)
