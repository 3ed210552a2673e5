use Rattle.std.proofs.Common.{◌≡◌, ◌+◌, ◌*◌, ◌++◌, length}
use Rattle.std.specs.Slice.Iter.{chunks_exact_rest, chunks_exact_size}
use Rattle.frames.specs.Hex.{all_digits, bytes_of}
use Rattle.frames.proofs.hex.decode.Given as goal

abbrev pub invariant-loop-digits : goal.invariant-loop-digits
invariant-loop-digits l =
    let rest = chunks_exact_rest l.digits-iterator in
    (chunks_exact_size l.digits-iterator ≡ 2)
    × (all_digits rest ≡ all_digits l.line)
    × (l.bytes.items ++ bytes_of rest ≡ bytes_of l.line)
    × (2 * length l.bytes.items + length rest ≡ length l.line)
