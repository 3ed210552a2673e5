use Rattle.std.proofs.Common.{◌≡◌, ◌≤◌, ◌++◌, map, drop, length, vec_items, vec_len, vec_capacity}
use Rattle.book.specs.Books.{register_of, rows_of, lender_of, call_means}
use Rattle.book.specs.Promise.{after, replies}
use Rattle.book.specs.Runs.{rows_run}
use Rattle.book.proofs.running.run.Given as goal

-- the answers so far, and those to the calls left, are all the answers; so with the places and the register; there is room for every answer
abbrev pub invariant-loop-call : goal.invariant-loop-call
invariant-loop-call g l =
    let read = g.K.Instrument.read in
    let row = g.K.Instrument.row in
    let means = g.K.Instrument.means in
    let left = drop l.call-index l.calls in
    (vec_items l.replies ++ replies (register_of read l.book) (map (call_means means) left) ≡ replies (register_of read l.initial.book) (map (call_means means) l.calls))
    × (rows_run row means (register_of read l.book) (rows_of l.book) left ≡ rows_run row means (register_of read l.initial.book) (rows_of l.initial.book) l.calls)
    × (after (register_of read l.book) (map (call_means means) left) ≡ after (register_of read l.initial.book) (map (call_means means) l.calls))
    × (lender_of l.book ≡ lender_of l.initial.book)
    × (vec_len l.replies ≡ l.call-index)
    × (length l.calls ≤ vec_capacity l.replies)
