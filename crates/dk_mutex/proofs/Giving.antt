-- Writing back the row of a mutex.
use Rattle.dk_mutex.proofs.Names.{◌≡◌, ◌<◌, ◌∙◌, ℕ, List, length, get_or, set, Option, ap, refill, slice_get-get_or, length-set, Holder, Lockable, given_to, nat_tests, arith}
use Rattle.dk_config.proofs.Refills.{refill-whole}

-- all rows written anew
pub rows-whole : (next rows made : List Lockable) → made ≡ next → length next ≡ length rows → refill (length rows) rows made ≡ next
rows-whole next rows made same long = refill-whole rows made (ap length same ∙ long) ∙ same

pub give-row : (holder : Option Holder) (m : ℕ) (rows : List Lockable) (d : Lockable) → m < length rows
    → refill (length rows) rows (set rows m (record (get_or rows m d) { holder = holder })) ≡ given_to holder m rows
give-row holder m rows d below = grind (arith, nat_tests, refill-whole, length-set, slice_get-get_or)
