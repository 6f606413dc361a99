-- What the tests of a table say of its reading.
use Rattle.dk_loader.proofs.Names.{◌≡◌, ◌<◌, ◌^◌, length, refl, ap, sym, Some, None, Ok, Err, codes, Members, Configuration, ConfigFault, all_tests, first_broken, append_some, append_none, shape_tests, answer_of, HasCountedRows, rows_at, length-map, nat_tests, arith}
use Rattle.dk_loader.specs.declared.fault.LoadFault.TheVariants as fault
use Rattle.dk_loader.specs.Reading.{config_of, reading_of, shaped_of}

pub faulty_reading : (ms : Members) (f : ConfigFault) → Some f ≡ first_broken (shape_tests ms) → Err (fault.Config f) ≡ reading_of ms
unfolding reading_of
faulty_reading ms f broken = rw (append_some (shape_tests ms) (all_tests (config_of ms)) f (sym broken)) refl

pub checked_reading : (ms : Members) (config : Configuration) → None ≡ first_broken (shape_tests ms) → config ≡ config_of ms
    → answer_of config (first_broken (all_tests config)) ≡ reading_of ms
unfolding reading_of
checked_reading ms config none same = rw (same, append_none (shape_tests ms) (all_tests (config_of ms)) (sym none)) refl

pub faulty_shape : (ms : Members) (f : ConfigFault) → Some f ≡ first_broken (shape_tests ms) → Err (fault.Config f) ≡ shaped_of ms
unfolding shaped_of
faulty_shape ms f broken = ap (answer_of (config_of ms)) broken

pub whole_shape : (ms : Members) (config : Configuration) → None ≡ first_broken (shape_tests ms) → config ≡ config_of ms → Ok config ≡ shaped_of ms
unfolding shaped_of
whole_shape ms config none same = rw same (ap (answer_of (config_of ms)) none)

pub counted : (ms : Members) (config : Configuration) → config ≡ config_of ms → length (rows_at (codes "level") ms) < 2 ^ 32
    → length (rows_at (codes "process") ms) < 2 ^ 32 → length (rows_at (codes "mutex") ms) < 2 ^ 32 → HasCountedRows config
unfolding config_of
counted ms config same levels processes mutexes = grind (arith, nat_tests, length-map)
