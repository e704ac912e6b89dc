use mathlib.Core.Path.{refl}
use native.Mathlib.Omega.{arith}
use Rattle.tables.proofs.SeenLaws.{walk_start, walk_less, walk_on, walk_hit, walk_end}
use Rattle.tables.proofs.strings.Chains.hold.Goals as goal

pub loop-c-init : goal.loop-c-init
loop-c-init c =
    let a = c.args in
    let x = a.string.now in
    let t = x.tables.now in
    walk_start t.strings.now t.bytes.now x.number a.self.now x.hash x.hashed c.requires.chained _ _ c.bucket.ensures refl

pub returns-then-equals : goal.returns-then-equals
returns-then-equals c =
    let a = c.args in
    let x = a.string.now in
    let t = x.tables.now in
    walk_hit t.strings.now t.bytes.now x.number a.self.now x.hash x.hashed c.requires.chained
    c.loop-c.c _ c.loop-c.invariant (omega arith) _ c.equals.ensures c.if-equals.true

pub loop-c-smaller : goal.loop-c-smaller
loop-c-smaller c =
    let a = c.args in
    let x = a.string.now in
    let t = x.tables.now in
    walk_less t.strings.now t.bytes.now x.number a.self.now x.hash x.hashed c.requires.chained
    c.loop-c.c _ c.loop-c.invariant (omega arith) _ refl

pub loop-c-preserved : goal.loop-c-preserved
loop-c-preserved c =
    let a = c.args in
    let x = a.string.now in
    let t = x.tables.now in
    walk_on t.strings.now t.bytes.now x.number a.self.now x.hash x.hashed c.requires.chained
    c.loop-c.c _ c.loop-c.invariant (omega arith) _ c.equals.ensures c.if-equals.false _ refl

pub returns : goal.returns
returns c =
    let a = c.args in
    let x = a.string.now in
    let t = x.tables.now in
    walk_end t.strings.now t.bytes.now x.number c.loop-c.c c.loop-c.invariant (omega arith)
