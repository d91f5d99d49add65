-- In a stage that holds a word, and in a head.
use Rattle.std.proofs.Common.{◌≡◌, ℕ, ◌≤◌, List, ◌++◌, length, arith, refl, sym, ap, subst, ◌∙◌, ⊎_elim, append_assoc}
use Rattle.std.proofs.lemmas.Grind.{common_steps}
use Rattle.pcapng_source.specs.Blocks.{blocks_from}
use Rattle.pcapng_source.specs.Given.{prepended}
use Rattle.pcapng_source.specs.Reading.{Stays, rest_at, rest_of, wanted_at}
use Rattle.pcapng_source.specs.declared.reader.Reader.{Reader}
use Rattle.pcapng_source.specs.declared.reader.Stage.TheVariants.{Head}
use Rattle.pcapng_source.proofs.Steps.{keeps-head}
use Rattle.pcapng_source.proofs.reader.Reader.keep.Goals as goal

pub put-requires : goal.put-requires
put-requires c =
    let r = c.args.self.now in
    let few = c.requires.few in (
      omega arith,
      ⊎_elim
          (λ is. subst (λ s. length c.args.bytes.now ≤ wanted_at s r) is few)
          (⊎_elim
          (λ is. subst (λ s. length c.args.bytes.now ≤ wanted_at s r) is few)
          (⊎_elim
          (λ is. subst (λ s. length c.args.bytes.now ≤ wanted_at s r) is few)
          (λ is. subst (λ s. length c.args.bytes.now ≤ wanted_at s r) is few)))
          c.in-Start.is,
    )

-- the bytes stand behind those of the head that were held
rest-in-head : (r : Reader) (head bytes left : List ℕ) → r.stage ≡ Head → head ≡ r.head ++ bytes → rest_of (record r { head = head }) left ≡ rest_of r (bytes ++ left)
rest-in-head r head bytes left is held =
    subst (λ s. prepended r.made (rest_at s (record r { head = head }) left) ≡ prepended r.made (rest_at s r (bytes ++ left))) (sym is)
    (ap (λ l. prepended r.made (blocks_from r.section r.place.allowed r.place.offset l)) (ap (λ h. h ++ left) held ∙ append_assoc r.head bytes left))

pub returns-in-Head : goal.returns-in-Head
returns-in-Head c =
    let r = c.args.self.now in
    let stays : Stays r (record r { head = c.put-in-Head.new.self }) = record {
      fits = rw c.put-in-Head.ensures.bytes (keeps-head r.section.order r.head c.args.bytes.now c.requires.fits
          (subst (λ s. length c.args.bytes.now ≤ wanted_at s r) c.in-Head.is c.requires.few));
      stage = refl;
    } in
    record {
      rest = λ left. rest-in-head r c.put-in-Head.new.self c.args.bytes.now left c.in-Head.is c.put-in-Head.ensures.bytes;
      lighter = grind (arith, common_steps);
      stays = stays;
    }
