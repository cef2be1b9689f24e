use Rattle.std.proofs.Common.{◌≡◌, length, sym, ap, ◌∙◌, subst}
use Rattle.disc.specs.Means.{header_of}
use Rattle.disc.specs.Numbers as disc
use Rattle.std.proofs.lemmas.Bool.{and_parts}
use Rattle.venue.proofs.Sounds.{sound_first}
use Rattle.venue.specs.Sound.{Sound}
use Rattle.wire.specs.Means.{kinds_of}
use Rattle.reference.specs.Means.{limits_of, world_of}
use Rattle.reference.proofs.Firsts.{first_many, items_sound}
use Rattle.reference.proofs.plain_market.PlainMarket.new.Goals as goal

pub invariant_of-result : goal.invariant_of-result
invariant_of-result c =
    let n = header_of c.args.header.now in
    let m = c.in_ok-market.ensures in
    let e : world_of c.in_ok-market.market ≡ disc.first_of (header_of c.args.header.now) = m.0 in
    let p = and_parts (disc.counts_fit (length n.items) n.accounts n.orders n.money) (disc.items_fit n.items)
    c.args.header.now.fits in
    let many = first_many n.items n.accounts in
    let a : length (world_of c.in_ok-market.market).accounts ≡ (header_of c.args.header.now).accounts = ap (λ v. length v.accounts)
    e ∙ many.0 in
    let i : length (world_of c.in_ok-market.market).items ≡ length (header_of c.args.header.now).items = ap (λ v. length v.items)
    e ∙ many.1 in
    let k = kinds_of c.args.kinds in
    record {
      sound = subst (Sound (limits_of c.in_ok-market.market.limits k)) (sym e) (sound_first _ n.items n.accounts (items_sound n.items p.1));
      sized = rw (a, i, m.1, m.2) p.0;
      room = rw (a, i, m.1, ← c.most_reports.ensures) c.in_ok-reports.ensures.capacity;
    }
