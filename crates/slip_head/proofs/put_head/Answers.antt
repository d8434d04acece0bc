-- `slip_head::put_head` meets its contract: six numbers put one after the other, each where the last one ended, are put at once.
-- Assumes nothing.
use Rattle.std.proofs.Common.{◌≡◌, ℕ, suc, ◌+◌, ◌≤◌, ◌<◌, List, [], ◌∷◌, ◌++◌, length, get_or, take, drop, ap, sym, ◌∙◌, add-one, arith, drop-cons}
use Rattle.std.proofs.Math.Seq.{take-suc}
use Rattle.std.proofs.lemmas.List.{take-append-drop}
use Rattle.std.specs.Prelude.{Bool, Some}
use Rattle.leb128.specs.Numbers.{groups, writes}
use lib.Seq.{sets}
use Rattle.leb128.proofs.Puts.{Put, put_start, put_length, store_fits, store_next, put_all, put_not}
use Rattle.slip_head.specs.Bytes.{form_for, head_numbers}
use Rattle.slip_head.specs.declared.Head.{Head}
use Rattle.slip_head.proofs.put_head.Goals as goal

abbrev numbers : ℕ → Head → List ℕ
numbers form h = head_numbers form h []

-- one number of the six more
module _ (out : List ℕ) (ns : List ℕ) (i : ℕ) (h : i < length ns) (at : ℕ) (now : List ℕ) (put : Put out (take i ns) at now) where
  whole : take i ns ++ (get_or ns i 0 ∷ drop (suc i) ns) ≡ ns
  whole = ap (λ (l : List ℕ). take i ns ++ l) (sym (drop-cons ns i 0 h)) ∙ take-append-drop i ns

  fits : length (writes ns) ≤ length out → at + length (groups (get_or ns i 0)) ≤ length now
  fits room = store_fits out (take i ns) (get_or ns i 0) (drop (suc i) ns) (rw whole room) at now put

  next : (r : ℕ) (last : List ℕ) → (r ≡ at + length (groups (get_or ns i 0))) × (last ≡ sets now at (groups (get_or ns i 0))) → Put out (take (i + 1) ns) r last
  next r last e = rw (add-one, take-suc ns i 0 h) (store_next out (take i ns) (get_or ns i 0) at now put r last e.0 e.1)

-- the numbers fit, by their length
roomy : (out : List ℕ) (h : Head) (wide : Bool) (form : ℕ) → form ≡ form_for wide → length (writes (numbers (form_for wide) h)) ≤ length out → length (writes (numbers form h)) ≤ length out
roomy out h wide form e room = rw e room

pub returns-then-out-head_len : goal.returns-then-out-head_len
returns-then-out-head_len c = let a = c.args in let p = put_not a.out.now 0 (writes (numbers (form_for a.wide) a.head)) (omega (arith, c.head_len.ensures a.wide)) in (sym p.0, sym p.1)

pub loop-n-init : goal.loop-n-init
loop-n-init c = put_start c.args.out.now

pub store_number-at-requires : goal.store_number-at-requires
store_number-at-requires c =
    let a = c.args in
    fits a.out.now (numbers c.form.result a.head) c.loop-n.n-index (omega arith) c.loop-n.at c.loop-n.out c.loop-n.invariant
    (roomy a.out.now a.head a.wide c.form.result c.form.ensures (omega (arith, c.head_len.ensures a.wide)))

pub loop-n-preserved : goal.loop-n-preserved
loop-n-preserved c =
    let a = c.args in
    next a.out.now (numbers c.form.result a.head) c.loop-n.n-index (omega arith) c.loop-n.at c.loop-n.out c.loop-n.invariant _ _ c.store_number-at.ensures

pub returns : goal.returns
returns c =
    let a = c.args in
    let e : c.loop-n.n-index ≡ 6 = omega arith in
    let put = rw (e, c.form.ensures) at c.loop-n.invariant in
    put_all _ _ _ _ (omega (arith, c.head_len.ensures a.wide)) put
