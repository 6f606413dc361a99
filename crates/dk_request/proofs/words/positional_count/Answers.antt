use Rattle.dk_request.proofs.Names.{◌≡◌, ◌+◌, arith, refl, length, string_bytes, Global, String, filter, length-filter_both, is_flag}
use Rattle.std.specs.Prelude.{not}
use Rattle.dk_request.proofs.words.positional_count.Goals as goal

pub overflow_sub-result : goal.overflow_sub-result
overflow_sub-result c =
    let ws = c.args.words.now in
    let parts : length (filter (λ (w : String Global). is_flag (string_bytes w)) ws) + length (filter (λ (w : String Global). not (is_flag (string_bytes w))) ws) ≡ length ws = length-filter_both _ _ (λ w. refl) ws in
    omega (arith, parts, c.flag_count.ensures)

pub returns : goal.returns
returns c =
    let ws = c.args.words.now in
    let parts : length (filter (λ (w : String Global). is_flag (string_bytes w)) ws) + length (filter (λ (w : String Global). not (is_flag (string_bytes w))) ws) ≡ length ws = length-filter_both _ _ (λ w. refl) ws in
    omega (arith, parts, c.flag_count.ensures)
