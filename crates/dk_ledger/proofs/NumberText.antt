-- How long a number is in decimal, and what a buffer holds after one was written into it.
use Rattle.dk_ledger.proofs.Names.{ℕ, ◌≡◌, ◌∙◌, ◌+◌, ◌-◌, ◌/◌, ◌%◌, ◌<◌, ◌≤◌, ◌^◌, List, [], ◌∷◌, ◌++◌, length, take, drop, get_or, arith, refl, ap, sym, length-append, append_assoc, decimal, slice_set, take-add, take-append_seam, take-append-add, get_or-append_seam, decimal_step, take_more_set, take-append-drop, take-append-le, take-put_mid, put_mid, length-take, length-take-le, drop-take, get_or-take, length_one, length_two, length_pair, length_four, nat_tests}

pub length_three : (n : ℕ) → 100 ≤ n → n < 1000 → length (decimal n) ≡ 3
length_three n low high = omega (arith, length_pair n low (omega arith), length_one (n / 100) (omega arith))

pub length_four_digits : (n : ℕ) → 1000 ≤ n → n < 10000 → length (decimal n) ≡ 4
length_four_digits n low high = omega (arith, length_pair n (omega arith) (omega arith), length_two (n / 100) (omega arith) (omega arith))

pub length_five : (n : ℕ) → 10000 ≤ n → n < 100000 → length (decimal n) ≡ 5
length_five n low high = omega (arith, length_four n low (omega arith), length_one (n / 10000) (omega arith))

pub length_six : (n : ℕ) → 100000 ≤ n → n < 1000000 → length (decimal n) ≡ 6
length_six n low high = omega (arith, length_four n (omega arith) (omega arith), length_two (n / 10000) (omega arith) (omega arith))

pub length_seven : (n : ℕ) → 1000000 ≤ n → n < 10000000 → length (decimal n) ≡ 7
length_seven n low high = omega (arith, length_four n (omega arith) (omega arith), length_three (n / 10000) (omega arith) (omega arith))

pub length_eight : (n : ℕ) → 10000000 ≤ n → n < 100000000 → length (decimal n) ≡ 8
length_eight n low high = grind (arith, nat_tests, length_four, length_four_digits)

pub length_nine : (n : ℕ) → 100000000 ≤ n → n < 1000000000 → length (decimal n) ≡ 9
length_nine n low high = omega (arith, length_four n (omega arith) (omega arith), length_five (n / 10000) (omega arith) (omega arith))

pub length_ten : (n : ℕ) → 1000000000 ≤ n → n < 2 ^ 32 → length (decimal n) ≡ 10
length_ten n low high = omega (arith, length_four n (omega arith) (omega arith), length_six (n / 10000) (omega arith) (omega arith))

-- the bytes in front are kept, and a text stands behind them
pub take_written : (new old text rest : List ℕ) (at : ℕ) → drop at new ≡ text ++ rest → take at new ≡ take at old → take (at + length text) new ≡ take at old ++ text
take_written new old text rest at behind front = grind (arith, nat_tests, take-add, take-append_seam)

-- of a piece that was written behind the bytes in front, the first bytes count
pub part_written : (at k len : ℕ) (old piece : List ℕ) → at ≤ length old → len ≤ length piece
    → take (at + len) (put_mid at k old piece) ≡ take at old ++ take len piece
part_written at k len old piece within part =
    let new : List ℕ = put_mid at k old piece in
    let end : ℕ = at + length piece in
    let whole : take end new ≡ take at old ++ piece = take-put_mid at k old piece end refl within in
    let long : length (take at old) ≡ at = length-take-le at old within in
    let room : at + len ≤ length (take end new) = omega (arith, part, long, ap length whole ∙ length-append (take at old) piece) in
    ap (take (at + len)) (sym (take-append-drop end new))
    ∙ take-append-le (at + len) (take end new) (drop end new) room
    ∙ ap (take (at + len)) whole
    ∙ ap (λ m. take (m + len) (take at old ++ piece)) (sym long)
    ∙ take-append-add (take at old) piece len

-- a number and the one before it, where the last digit alone is another
pub length_before : (n : ℕ) → 10 ≤ n → 0 < n % 10 → n < 2 ^ 64 → length (decimal (n - 1)) ≡ length (decimal (n / 10)) + 1
length_before n long other fits =
    let tens : (n - 1) / 10 ≡ n / 10 = omega (arith, other) in
    ap length (decimal_step (n - 1) (omega (arith, long, other)) (omega (arith, fits))) ∙ length-append (decimal ((n - 1) / 10)) _
    ∙ ap (λ t. length (decimal t) + 1) tens

-- the last digit of a number that a text begins with
pub last_byte : (n : ℕ) (text : List ℕ) (long : ℕ) → 10 ≤ n → n < 2 ^ 64 → long ≡ length (decimal n) → take long text ≡ decimal n
    → get_or text (long - 1) 0 ≡ 48 + n % 10
last_byte n text long more fits all front =
    let step = decimal_step n more fits in
    let count : long ≡ length (decimal (n / 10)) + 1 = all ∙ ap length step ∙ length-append (decimal (n / 10)) _ in
    let place : long - 1 ≡ length (decimal (n / 10)) = omega (arith, count) in
    sym (get_or-take long text (long - 1) 0 (omega (arith, count)))
    ∙ ap (λ t. get_or t (long - 1) 0) (front ∙ step)
    ∙ ap (λ k. get_or (decimal (n / 10) ++ (48 + n % 10) ∷ []) k 0) place
    ∙ get_or-append_seam (decimal (n / 10)) (48 + n % 10) [] 0

-- a front of one byte more than a text, which begins with the text
kept_front : (bytes text : List ℕ) (last : ℕ) → length text ≤ length bytes → take (length text + 1) bytes ≡ text ++ last ∷ [] → take (length text) bytes ≡ text
kept_front bytes text last within whole =
    let n = length text in
    let rest = take 1 (drop n bytes) in
    let long : length (take n bytes) ≡ n = length-take-le n bytes within in
    sym (take-append_seam (take n bytes) rest)
    ∙ ap (λ m. take m (take n bytes ++ rest)) long
    ∙ ap (take n) (sym (take-add n 1 bytes) ∙ whole)
    ∙ take-append_seam text (last ∷ [])

-- a buffer in front of which the number before stands, once the last digit is written over
pub next_digit : (n : ℕ) (bytes : List ℕ) (long : ℕ) → 10 ≤ n → 0 < n % 10 → n < 2 ^ 64 → long ≤ length bytes
    → take long bytes ≡ decimal (n - 1) → take long (slice_set bytes (long - 1) (48 + n % 10)) ≡ decimal n
next_digit n bytes long more other fits within before =
    let tens : (n - 1) / 10 ≡ n / 10 = omega (arith, other) in
    let step = decimal_step (n - 1) (omega (arith, more, other)) (omega (arith, fits)) in
    let all : length (take long bytes) ≡ long = length-take-le long bytes within in
    let count : long ≡ length (decimal (n / 10)) + 1 = sym all ∙ ap length before ∙ length_before n more other fits in
    let whole : take long bytes ≡ decimal (n / 10) ++ (48 + (n - 1) % 10) ∷ [] =
    before ∙ step ∙ ap (λ t. decimal t ++ (48 + (n - 1) % 10) ∷ []) tens in
    let shorter : long - 1 ≡ length (decimal (n / 10)) = omega (arith, count) in
    let front : take (long - 1) bytes ≡ decimal (n / 10) =
    ap (λ m. take m bytes) shorter
    ∙ kept_front bytes (decimal (n / 10)) (48 + (n - 1) % 10) (omega (arith, count, within)) (ap (λ m. take m bytes) (sym count) ∙ whole) in
    let one : long - 1 + 1 ≡ long = omega (arith, count) in
    ap (λ m. take m (slice_set bytes (long - 1) (48 + n % 10))) (sym one)
    ∙ take_more_set bytes (long - 1) (48 + n % 10) (omega (arith, count, within))
    ∙ ap (λ t. t ++ (48 + n % 10) ∷ []) front
    ∙ sym (decimal_step n more fits)

-- a text that begins with another is as long at least
pub front_within : (text front : List ℕ) (d : ℕ) → take d text ≡ front → d ≡ length front → d ≤ length text
front_within text front d is long = omega (arith, sym (length-take d text) ∙ ap length is, long)

-- a buffer begins with what its filled part begins with
pub take_within : (bytes : List ℕ) (d k : ℕ) → d + k ≤ length bytes → take d (take (d + k) bytes) ≡ take d bytes
take_within bytes d k fits =
    let long : length (take d bytes) ≡ d = length-take-le d bytes (omega (arith, fits)) in
    ap (take d) (take-add d k bytes)
    ∙ ap (λ n. take n (take d bytes ++ take k (drop d bytes))) (sym long)
    ∙ take-append_seam (take d bytes) (take k (drop d bytes))

-- a buffer whose front became another text, of the same length
pub front_changed : (new old text : List ℕ) (d k : ℕ) → take d new ≡ text → drop d new ≡ drop d old → take (d + k) new ≡ text ++ drop d (take (d + k) old)
front_changed new old text d k front behind = grind (arith, nat_tests, take-add, drop-take)

-- a text written over the front of a buffer
pub front_written : (new old text : List ℕ) (d k : ℕ) → length text ≡ d → new ≡ text ++ drop d old → take (d + k) new ≡ text ++ drop d (take (d + k) old)
front_written new old text d k long is = grind (arith, nat_tests, take-append-add, drop-take)

-- the first of seven parts is what the whole begins with
pub in_front : (a b c d e f g : List ℕ) → a ++ b ++ c ++ d ++ e ++ f ++ g ≡ a ++ (b ++ (c ++ (d ++ (e ++ (f ++ g)))))
in_front a b c d e f g =
    append_assoc (a ++ b ++ c ++ d ++ e) f g
    ∙ append_assoc (a ++ b ++ c ++ d) e (f ++ g)
    ∙ append_assoc (a ++ b ++ c) d (e ++ (f ++ g))
    ∙ append_assoc (a ++ b) c (d ++ (e ++ (f ++ g)))
    ∙ append_assoc a b (c ++ (d ++ (e ++ (f ++ g))))
