use native.Mathlib.Omega.{arith}
use Rattle.opening.proofs.OpeningLaws.{open_1, open_2, open_3, open_4, open_all}
use Rattle.opening.proofs.parse.Goals as goal

pub returns-then-image-lt-SIZE : goal.returns-then-image-lt-SIZE
returns-then-image-lt-SIZE c = open_1 _ _ (omega arith)

pub returns-then-image : goal.returns-then-image
returns-then-image c = open_2 _ _ (omega arith) (omega arith)

pub returns-then-work-banks : goal.returns-then-work-banks
returns-then-work-banks c = let k = c.as_chunks in open_3 _ _ (omega arith) (omega arith) (omega (arith, k.ensures.front_len))

pub returns-then-not-any_valid : goal.returns-then-not-any_valid
returns-then-not-any_valid c = let k = c.as_chunks in let v = c.any_valid in
    open_4 c.args.image.now c.args.work.now (omega arith) (omega arith) (omega (arith, k.ensures.front_len)) _ k.ensures.front v.result v.ensures c.if-not-any_valid.true

pub returns : goal.returns
returns c = let k = c.as_chunks in let v = c.any_valid in
    open_all c.args.image.now c.args.work.now (omega arith) (omega arith) (omega (arith, k.ensures.front_len)) _ k.ensures.front v.result v.ensures _ k.ensures.front_len _ _ c.load.ensures c.if-not-any_valid.false
