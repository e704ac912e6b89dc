use Rattle.tables.specs.Seen.{hash_at}
use Rattle.tables.proofs.SeenLaws.{chained_more}
use Rattle.tables.proofs.strings.Chains.add.Goals as goal

pub returns-then-s-lt1024 : goal.returns-then-s-lt1024
returns-then-s-lt1024 c =
    let a = c.args in
    let x = a.string.now in
    λ few before. chained_more (hash_at x.tables.now.strings.now x.tables.now.bytes.now) a.self.now x.number x.hash c.bucket-b.result few x.hashed c.bucket-b.ensures before
