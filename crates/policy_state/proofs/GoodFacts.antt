-- What a well formed state shows, by names, ids and links: for proofs that stand on it.
use Rattle.std.proofs.Common.{◌≡◌, ◌∙◌, ◌≤◌, ◌==◌, ◌&&◌, ℕ, true, false, not, Option, Some, None, List, [], ◌∷◌, map, refl, sym, ap, subst, inl, inr, arith, nat_le}
use Rattle.std.specs.Prelude.{find}
use Rattle.std.specs.List.{list_all, list_any}
use Rattle.std.specs.Option.{option_map}
use Rattle.std.specs.Str.{bytes_eq}
use Rattle.std.proofs.lemmas.Bool.{false≢true, and_parts, not-true, eqb-true, eq-eqb, ne_eqb, leb-true}
use Rattle.std.proofs.lemmas.Option.{none-some, same_Some}
use Rattle.std.proofs.lemmas.Slice.Eq.{bytes_eq-Decides}
use Rattle.list_lemmas.proofs.Anys.{any-map}
use Rattle.networks.specs.Kinds.{is_local, is_physical}
use Rattle.networks.specs.Lists.{are_distinct, find_id, find_link}
use Rattle.networks.specs.Network.{has_link, local_id}
use Rattle.policy_state.specs.Good.{IsWellFormed, are_names_distinct, is_default_there, is_index, is_local_network, is_pair}
use Rattle.policy_state.specs.View.{StateView, Link, LinkRoute, Network, TetherPair, link_named, name_of}
use Rattle.policy_state.proofs.AlikeRules.{all-has}
use Rattle.policy_state.proofs.GoodStates.{has-links, is-good, is-whole}
use Rattle.policy_state.proofs.LinkLists.{link_at}
use Rattle.policy_state.proofs.Members.{find-passes, none-has}
use Rattle.policy_state.proofs.NetworkParts.{found-by_id, has-link}
use Rattle.policy_state.proofs.Owners.{Has, IsOutput, IsOwned, Passing, find-has, found, link-has, of_any, owners_of}
use Rattle.policy_state.proofs.PairLists.{PairParts, pair-parts}

-- of items with distinct numbers two of one number are the same
pub one-of_number : {A : Type 0} (number : A → ℕ) (xs : List A) (x y : A) → are_distinct (map number xs) ≡ true → Has xs x → Has xs y → number x ≡ number y → x ≡ y
one-of_number number [] x y distinct in_x in_y same = absurd in_x
one-of_number {A = A} number (z ∷ zs) x y distinct in_x in_y same =
    let parts = and_parts (not (list_any (λ m. m == number z) (map number zs))) (are_distinct (map number zs)) distinct in
    let alone : list_any (λ w. number w == number z) zs ≡ false = sym (any-map number (λ m. m == number z) zs) ∙ not-true _ parts.0 in
    by in_x in_y alone (one-of_number number zs x y parts.1)
  where
    by : Has (z ∷ zs) x → Has (z ∷ zs) y → list_any (λ w. number w == number z) zs ≡ false → (Has zs x → Has zs y → number x ≡ number y → x ≡ y) → x ≡ y
    by (inl e) (inl f) alone rest = sym e ∙ f
    by (inl e) (inr h) alone rest = absurd (false≢true (sym (none-has (λ w. number w == number z) zs y alone h) ∙ eq-eqb (number y) (number z) (sym same ∙ ap number (sym e))))
    by (inr g) (inl f) alone rest = absurd (false≢true (sym (none-has (λ w. number w == number z) zs x alone g) ∙ eq-eqb (number x) (number z) (same ∙ ap number (sym f))))
    by (inr g) (inr h) alone rest = rest g h same

-- and of links with distinct names two of one name
pub one-of_name : (ls : List Link) (x y : Link) → are_names_distinct ls ≡ true → Has ls x → Has ls y → x.name ≡ y.name → x ≡ y
one-of_name [] x y distinct in_x in_y same = absurd in_x
one-of_name (z ∷ zs) x y distinct in_x in_y same =
    let parts = and_parts (not (list_any (λ m. bytes_eq m.name z.name) zs)) (are_names_distinct zs) distinct in
    by in_x in_y (not-true _ parts.0) (one-of_name zs x y parts.1)
  where
    by : Has (z ∷ zs) x → Has (z ∷ zs) y → list_any (λ w. bytes_eq w.name z.name) zs ≡ false → (Has zs x → Has zs y → x.name ≡ y.name → x ≡ y) → x ≡ y
    by (inl e) (inl f) alone rest = sym e ∙ f
    by (inl e) (inr h) alone rest =
        absurd (false≢true (sym (none-has (λ w. bytes_eq w.name z.name) zs y alone h) ∙ (bytes_eq-Decides y.name z.name).1 (sym same ∙ ap (λ l. l.name) (sym e))))
    by (inr g) (inl f) alone rest =
        absurd (false≢true (sym (none-has (λ w. bytes_eq w.name z.name) zs x alone g) ∙ (bytes_eq-Decides x.name z.name).1 (same ∙ ap (λ l. l.name) (sym f))))
    by (inr g) (inr h) alone rest = rest g h same

-- the default network
pub record DefaultNetwork (s : StateView) (id : ℕ) : Type 0 where
  pub n : Network
  pub there : Has s.networks n
  pub found : find_id id s.networks ≡ Some n
  pub physical : is_physical n.kind ≡ true

-- the network of an output, which isn't the local one
pub record OutputNetwork (s : StateView) (out : ℕ) : Type 0 where
  pub n : Network
  pub there : Has s.networks n
  pub found : find_link out s.networks ≡ Some n
  pub not_local : is_local n.kind ≡ false

module _ (s : StateView) (formed : IsWellFormed s) where
  pub routes-belong : (n : Network) (r : LinkRoute) → Has s.networks n → Has n.routes r → Has n.interfaces r.link
  routes-belong n r there in_r = (is-whole s formed).routes n r there in_r

  pub interface-known : (n : Network) (link : ℕ) → Has s.networks n → Has n.interfaces link → (2 ≤ link) × (is_index s.links link ≡ true)
  interface-known n link there has =
      ((has-links s formed).interfaces n link there has, all-has (is_index s.links) n.interfaces link (all-has (λ m. list_all (is_index s.links) m.interfaces) s.networks n formed.interfaces there) has)

  -- a link is an interface of at most one network, by which it is found
  pub one-owner : (m n : Network) (link : ℕ) → Has s.networks m → Has s.networks n → Has m.interfaces link → Has n.interfaces link → m ≡ n
  one-owner m n link in_m in_n has_m has_n =
      let owned : IsOwned (owners_of s) s = is-good s formed in
      owned.one_id m n in_m in_n (sym ((owned.owns m in_m).links link has_m) ∙ (owned.owns n in_n).links link has_n)

  pub found-by_link : (n : Network) (link : ℕ) → Has s.networks n → has_link n link ≡ true → find_link link s.networks ≡ Some n
  found-by_link n link there has = found (λ m. has_link m link) s.networks n there has (λ m in_m h. one-owner m n link in_m there (link-has m link h) (link-has n link has))

  -- the link of a name is the one of its index, and the other way round
  pub name-of_link : (name : List ℕ) (link : ℕ) → link_named s name ≡ Some link → name_of s link ≡ Some name
  name-of_link name link named =
      let at = link_at s.links name link named in
      let l : Link = at.0 in
      let there : Has s.links l = find-has (λ m. bytes_eq m.name name) s.links l at.1.0 in
      let is : l.name ≡ name = (bytes_eq-Decides l.name name).0 (find-passes (λ m. bytes_eq m.name name) s.links l at.1.0) in
      let index : l.index ≡ link = at.1.1 in
      let first : find (λ m. m.index == link) s.links ≡ Some l =
      found (λ m. m.index == link) s.links l there (eq-eqb l.index link index)
      (λ m in_m h. one-of_number (λ k. k.index) s.links m l formed.links.indices_distinct in_m there (eqb-true m.index link h ∙ sym index)) in
      ap (option_map (λ (m : Link). m.name)) first ∙ ap Some is

  pub link-of_name : (name : List ℕ) (link : ℕ) → name_of s link ≡ Some name → link_named s name ≡ Some link
  link-of_name name link named = by (find (λ l. l.index == link) s.links) refl named
    where
      by : (o : Option Link) → find (λ l. l.index == link) s.links ≡ o → option_map (λ (l : Link). l.name) o ≡ Some name → link_named s name ≡ Some link
      by None is h = absurd (none-some name h)
      by (Some l) is h =
          let there : Has s.links l = find-has (λ m. m.index == link) s.links l is in
          let same : l.name ≡ name = same_Some l.name name h in
          let index : l.index ≡ link = eqb-true l.index link (find-passes (λ m. m.index == link) s.links l is) in
          let first : find (λ m. bytes_eq m.name name) s.links ≡ Some l =
          found (λ m. bytes_eq m.name name) s.links l there ((bytes_eq-Decides l.name name).1 same)
          (λ m in_m g. one-of_name s.links m l formed.links.names_distinct in_m there ((bytes_eq-Decides m.name name).0 g ∙ sym same)) in
          ap (option_map (λ (m : Link). m.index)) first ∙ ap Some index

  -- the local network is the one of its id
  pub local-id : (n : Network) → Has s.networks n → is_local n.kind ≡ (n.id == local_id)
  local-id n there = by (subst (λ ns. Has ns n) formed.networks.local_first.first there)
    where
      by : Has (formed.networks.local_first.local ∷ formed.networks.local_first.others) n → is_local n.kind ≡ (n.id == local_id)
      by (inl e) =
          ap (λ m. is_local_network m) (sym e) ∙ (formed.networks.local_first.is_local
          ∙ sym (eq-eqb n.id local_id (ap (λ m. m.id) (sym e) ∙ formed.networks.local_first.id_is)))
      by (inr h) =
          let created = and_parts (not (is_local_network n)) (nat_le 100 n.id)
          (all-has (λ m. not (is_local_network m) && nat_le 100 m.id) formed.networks.local_first.others n formed.networks.local_first.others_created h) in
          let above : 100 ≤ n.id = leb-true 100 n.id created.1 in
          not-true (is_local n.kind) created.0 ∙ sym (ne_eqb n.id local_id (λ same. omega (arith, above, same)))

  pub default-network : (id : ℕ) → s.default ≡ Some id → DefaultNetwork s id
  default-network id is =
      let some : is_default_there s.networks (Some id) ≡ true = ap (is_default_there s.networks) (sym is) ∙ formed.default in
      let it : Passing (λ n. (n.id == id) && is_physical n.kind) s.networks = of_any (λ n. (n.id == id) && is_physical n.kind) s.networks some in
      let parts = and_parts (it.one.id == id) (is_physical it.one.kind) it.passes in
      record {
        n = it.one;
        there = it.there;
        found = ap (λ i. find_id i s.networks) (sym (eqb-true it.one.id id parts.0)) ∙ found-by_id s formed it.one it.there;
        physical = parts.1;
      }

  -- what a tether pair goes by
  pub pair-known : (pair : TetherPair) → Has s.pairs pair → PairParts s.links s.networks pair
  pair-known pair there = pair-parts s.links s.networks pair (all-has (is_pair s.links s.networks) s.pairs pair formed.pairs.each there)

  pub output-network : (pair : TetherPair) → Has s.pairs pair → OutputNetwork s pair.out
  output-network pair there =
      let out : IsOutput s pair.out = (is-whole s formed).outputs pair there in
      record { n = out.net; there = out.there; found = found-by_link out.net pair.out out.there (has-link out.net pair.out out.has); not_local = out.not_local }
