use Rattle.std.proofs.Common.{◌≡◌, ◌<◌, ◌+◌, ◌-◌, ◌*◌, ◌^◌, suc, drop, length-drop, ap, sym, ◌∙◌, subst, arith}
use Rattle.std.proofs.lemmas.List.{drop-drop}
use Rattle.filter_lang.specs.Tokens.{quad_from, dotted_part, last_part}
use Rattle.filter_lang.proofs.Quads.{quad_from-part, quad_from-last, fits_step, from_offset}
use Rattle.filter_lang.proofs.lexeme.quad_at.Goals as goal

pub returns-in_default : goal.returns-in_default
returns-in_default c =
    let l = c.loop-part in
    let bs = c.args.bytes.now in
    let left : 3 - l._part ≡ suc (3 - (l._part + 1)) = omega arith in
    let found = c.in_default.ensures.value ∙ ap dotted_part (from_offset bs l.len) in
    let one = ap (λ x. x.len) c.new.ensures in
    record {
      value = c.new.ensures ∙ sym (quad_from-part (3 - (l._part + 1)) l.address l.len _ _ found) ∙ ap (λ k. quad_from k l.address l.len (drop l.len bs)) (sym left) ∙ l.invariant.same;
      some = omega arith;
      within = omega (arith, c.requires);
    }

pub overflow_mul-address : goal.overflow_mul-address
overflow_mul-address c =
    let l = c.loop-part in
    omega (arith, (fits_step l._part l.address c.in-Some.number (omega arith) l.invariant.fits c.in-Some.ensures.small).1)

pub overflow_add-address : goal.overflow_add-address
overflow_add-address c =
    let l = c.loop-part in
    omega (arith, (fits_step l._part l.address c.in-Some.number (omega arith) l.invariant.fits c.in-Some.ensures.small).1)

pub loop-part-preserved : goal.loop-part-preserved
loop-part-preserved c =
    let l = c.loop-part in
    let bs = c.args.bytes.now in
    let n = c.in-Some.number in
    let m = c.in-Some.more in
    let left : 3 - l._part ≡ suc (3 - (l._part + 1)) = omega arith in
    let found = c.in-Some.ensures.value ∙ ap dotted_part (from_offset bs l.len) in
    record {
      same =
          ap (λ xs. quad_from (3 - (l._part + 1)) (l.address * 256 + n) (l.len + m) xs) (sym (drop-drop m l.len bs))
          ∙ sym (quad_from-part (3 - (l._part + 1)) l.address l.len _ _ found) ∙ ap (λ k. quad_from k l.address l.len (drop l.len bs)) (sym left) ∙ l.invariant.same;
      fits = (fits_step l._part l.address n (omega arith) l.invariant.fits c.in-Some.ensures.small).0;
      some = omega (arith, c.in-Some.ensures.some, l.invariant.some);
      within = omega (arith, c.in-Some.ensures.within, length-drop l.len bs);
    }

pub overflow_mul-address-in-Some-last_part : goal.overflow_mul-address-in-Some-last_part
overflow_mul-address-in-Some-last_part c =
    let l = c.loop-part in
    let last : l._part ≡ 3 = omega arith in
    let small : l.address < 256 ^ 3 = subst (λ i. l.address < 256 ^ i) last l.invariant.fits in
    omega arith

pub overflow_add-address-in-Some-last_part : goal.overflow_add-address-in-Some-last_part
overflow_add-address-in-Some-last_part c =
    let l = c.loop-part in
    let last : l._part ≡ 3 = omega arith in
    let small : l.address < 256 ^ 3 = subst (λ i. l.address < 256 ^ i) last l.invariant.fits in
    omega (arith, c.in-Some-last_part.ensures.small)

pub returns-in-Some-last_part : goal.returns-in-Some-last_part
returns-in-Some-last_part c =
    let l = c.loop-part in
    let bs = c.args.bytes.now in
    let left : 3 - l._part ≡ 0 = omega arith in
    let found = c.in-Some-last_part.ensures.value ∙ ap last_part (from_offset bs l.len) in
    let whole = ap (λ x. x.len) c.new-in-Some-last_part.ensures in
    record {
      value = c.new-in-Some-last_part.ensures ∙ sym (quad_from-last l.address l.len _ _ found) ∙ ap (λ k. quad_from k l.address l.len (drop l.len bs)) (sym left) ∙ l.invariant.same;
      some = omega (arith, l.invariant.some);
      within = omega (arith, c.in-Some-last_part.ensures.within, length-drop l.len bs);
    }

pub returns-in-None : goal.returns-in-None
returns-in-None c =
    let l = c.loop-part in
    let bs = c.args.bytes.now in
    let left : 3 - l._part ≡ 0 = omega arith in
    let found = c.in-None.ensures.value ∙ ap last_part (from_offset bs l.len) in
    let one = ap (λ x. x.len) c.new-in-None.ensures in
    record {
      value = c.new-in-None.ensures ∙ sym (quad_from-last l.address l.len _ _ found) ∙ ap (λ k. quad_from k l.address l.len (drop l.len bs)) (sym left) ∙ l.invariant.same;
      some = omega arith;
      within = omega (arith, c.requires);
    }
