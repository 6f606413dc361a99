use Rattle.dk_asm.proofs.Imports.{◌∙◌, sym, take, drop, arith, ap, length, length-append, listing}
use Rattle.dk_asm.proofs.Listings.{one_more_listed, some_by_test}
use Rattle.dk_asm.proofs.Sizes.{listing_size}
use Rattle.dk_asm.proofs.Law.{listed_back, are_bytes}
use Rattle.dk_asm.proofs.listing.disassemble.Goals as goal

pub returns-in_err-push_line-clause-back : goal.returns-in_err-push_line-clause-back
returns-in_err-push_line-clause-back c = listed_back c.args.code.now c.requires (are_bytes c.args.code.now (λ i. omega (arith, c.type_inv.code i)))

pub returns-clause-back : goal.returns-clause-back
returns-clause-back c = listed_back c.args.code.now c.requires (are_bytes c.args.code.now (λ i. omega (arith, c.type_inv.code i)))

pub returns-clause-size : goal.returns-clause-size
returns-clause-size c =
    let size = listing_size c.args.code.now c.requires (are_bytes c.args.code.now (λ i. omega (arith, c.type_inv.code i))) in
    let whole = ap length c.loop-rest.invariant in
    let both = length-append c.loop-rest.text.items (listing c.loop-rest.rest.now) in
    omega (arith, size, whole, both)

pub loop-rest-preserved : goal.loop-rest-preserved
loop-rest-preserved c =
    let some = some_by_test (length c.loop-rest.rest.now) (sym c.is_empty.ensures ∙ c.loop-rest-test.true) in
    one_more_listed c.loop-rest.text.items c.push_line.new.text.items c.loop-rest.rest.now c.split_at.result.0.now c.split_at.result.1.now (listing c.args.code.now)
    some
    (c.split_at.ensures.front ∙ ap (λ n. take n c.loop-rest.rest.now) c.min.ensures)
    (c.split_at.ensures.back ∙ ap (λ n. drop n c.loop-rest.rest.now) c.min.ensures)
    c.in_ok-push_line.ensures
    c.loop-rest.invariant
