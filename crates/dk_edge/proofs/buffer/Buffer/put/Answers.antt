use Rattle.std.proofs.Common.{◌≡◌, ◌∙◌, ◌+◌, ◌++◌, ◌≤◌, List, ℕ, ap, append_assoc, arith, drop, length, length-append, sym, take}
use Rattle.std.proofs.Math.Seq.{take-append_seam, take-take}
use Rattle.std.proofs.lemmas.List.{drop-append-le, length-take-le}
use Rattle.dk_edge.proofs.buffer.Buffer.put.Goals as goal

-- a piece written behind the bytes up to an end, of so many
put_behind : (bytes old copied piece rest more : List ℕ) (start end all : ℕ) → bytes ≡ old → copied ≡ piece → start ≤ end → end ≤ length bytes → end + length piece ≤ all
    → drop start (take (end + length piece) (take all ((take end bytes ++ (copied ++ rest)) ++ more))) ≡ drop start (take end old) ++ piece
put_behind bytes old copied piece rest more start end all same copy begun within fits =
    let n = end + length piece in
    let front = take end bytes in
    let long : length front ≡ end = length-take-le end bytes within in
    let both : length (front ++ piece) ≡ n = length-append front piece ∙ ap (λ k. k + length piece) long in
    ap (drop start) (take-take n all ((front ++ (copied ++ rest)) ++ more) fits)
    ∙ ap (λ xs. drop start (take n ((front ++ (xs ++ rest)) ++ more))) copy
    ∙ ap (λ t. drop start (take n t)) (append_assoc front (piece ++ rest) more ∙ ap (λ t. front ++ t) (append_assoc piece rest more) ∙ sym (append_assoc front piece (rest ++ more)))
    ∙ ap (λ k. drop start (take k ((front ++ piece) ++ (rest ++ more)))) (sym both)
    ∙ ap (drop start) (take-append_seam (front ++ piece) (rest ++ more))
    ∙ drop-append-le start front piece (omega (arith, begun, long))
    ∙ ap (λ xs. drop start (take end xs) ++ piece) same

pub returns : goal.returns
returns c =
    let s = c.args.self.now in
    put_behind c.deref_mut.result.now s.bytes.items c.copy_from_slice.new.self c.args.piece.now _ _ s.start s.end s.bytes.len c.deref_mut.ensures.value c.copy_from_slice.ensures.after
    s.begun (omega (arith, s.within, s.whole, c.deref_mut.ensures.len)) (omega (arith, s.whole, c.requires))
