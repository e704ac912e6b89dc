use Rattle.std.proofs.Common.{◌≡◌, ◌≤◌, ◌+◌, ◌*◌, length, take, drop}
use Rattle.std.specs.Slice.Iter.{chunks_rest, chunks_size}
use Rattle.listing.specs.Read.{pairs_of, string_of}
use Rattle.listing.proofs.ReadLaws.{joined}
use Rattle.listing.proofs.read.hexadecimal.Given as goal

abbrev pub invariant-loop-k : goal.invariant-loop-k
invariant-loop-k l = record {
  two : chunks_size l.k-iterator.iter ≡ 2;
  within : l.k-iterator.count ≤ length l.out;
  left : l.k-iterator.count * 2 + length (chunks_rest l.k-iterator.iter) ≡ length l.fn.line;
  follows : joined (take l.k-iterator.count l.out) (pairs_of (chunks_rest l.k-iterator.iter)) ≡ string_of l.fn.line;
  past : drop l.k-iterator.count l.out ≡ drop l.k-iterator.count l.initial.out;
}
