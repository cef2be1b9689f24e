-- Which word of a body is which number of the market.
use Rattle.std.proofs.Common.{◌≡◌, ℕ, suc, ◌+◌, ◌-◌, ◌*◌, ◌<◌, ◌≤◌, List, [], ◌∷◌, ◌++◌, length, get_or, refl, ap, ◌∙◌, mul-le-mul_right, arith, length-append}
use Rattle.std.specs.List.{flat_map, AllByRecursion}
use Rattle.std.proofs.lemmas.List.{get_or_append_left, get_or-append_right, length-map}
use Rattle.venue.specs.Ranges.{Ranged}
use Rattle.venue.specs.World.{Account, Item, Order, World}
use Rattle.checkpoint.specs.Body.{account_words, head_words, item_words, market_words, order_words}
use Rattle.checkpoint.specs.Reading.{account_at, accounts_at, orders_at}
use Rattle.checkpoint.specs.Words.{word_of}
use Rattle.checkpoint.proofs.Joins.{EvenRows, get_or_joined, length_joined}

-- a market of k items and n accounts, in range
pub record Storable (k n : ℕ) (w : World) : Type 0 where
  pub items : length w.items ≡ k
  pub accounts : length w.accounts ≡ n
  pub wide : AllByRecursion (λ (x : Account). length x.holds ≡ k) w.accounts
  pub ranged : Ranged w
  pub few : length w.orders ≤ 65536

-- rows of equal length
even_items : (is : List Item) → EvenRows item_words 2 is
unfolding item_words
even_items [] = tt
even_items (i ∷ is) = (refl, even_items is)

even_orders : (os : List Order) → EvenRows order_words 6 os
unfolding order_words
even_orders [] = tt
even_orders (o ∷ os) = (refl, even_orders os)

even_accounts : (k : ℕ) (xs : List Account) → AllByRecursion (λ (x : Account). length x.holds ≡ k) xs → EvenRows account_words (1 + k) xs
unfolding account_words
even_accounts k [] h = tt
even_accounts k (x ∷ xs) h =
    let e : suc (length x.holds) ≡ 1 + k = omega (arith, h.0) in
    (ap suc (length-map x.holds word_of) ∙ e, even_accounts k xs h.1)

-- place j of row a lies in n rows of v
pub rows_in : (a n v j : ℕ) → a < n → j < v → a * v + j < n * v
rows_in a n v j l g =
    let m = mul-le-mul_right {m = suc a} {n = n} v l in
    let e : suc a * v ≡ a * v + v = omega arith in
    omega arith

-- four lists one behind another
behind : (xs ys : List ℕ) (p i y : ℕ) → length xs ≡ p → i ≡ p + y → get_or (xs ++ ys) i 0 ≡ get_or ys y 0
behind xs ys p i y h e =
    let m : i - p ≡ y = omega arith in
    get_or-append_right xs ys p i 0 h (omega arith) ∙ ap (λ (j : ℕ). get_or ys j 0) m

head_long : (w : World) (h : ℕ) → length (head_words w h) ≡ 8
unfolding head_words
head_long w h = refl

module _ (k n : ℕ) (w : World) (h : ℕ) (s : Storable k n w) where
  items_long : length (flat_map item_words w.items) ≡ 2 * k
  items_long =
      let q = s.items in
      let e : length w.items * 2 ≡ 2 * k = omega arith in
      length_joined item_words 2 w.items (even_items w.items) ∙ e

  accounts_long : length (flat_map account_words w.accounts) ≡ n * (1 + k)
  accounts_long =
      length_joined account_words (1 + k) w.accounts (even_accounts k w.accounts s.wide) ∙ ap (λ (j : ℕ). j * (1 + k)) s.accounts

  orders_long : length (flat_map order_words w.orders) ≡ 6 * length w.orders
  orders_long =
      let e : length w.orders * 6 ≡ 6 * length w.orders = omega arith in
      length_joined order_words 6 w.orders (even_orders w.orders) ∙ e

  pub market_long : length (market_words w h) ≡ 8 + (2 * k + n * (1 + k) + 6 * length w.orders)
  unfolding market_words
  market_long =
      let a = items_long in
      let b = accounts_long in
      let c = orders_long in
      let d = head_long w h in
      let m = n * (1 + k) in
      simp length-append (omega arith)

  pub head_spot : (i : ℕ) → i < 8 → get_or (market_words w h) i 0 ≡ get_or (head_words w h) i 0
  unfolding market_words
  head_spot i l = get_or_append_left (head_words w h) _ 0 i (omega (arith, head_long w h))

  -- word y behind the head, if it is an item's
  pub item_spot : (y : ℕ) → y < 2 * k → get_or (market_words w h) (8 + y) 0 ≡ get_or (flat_map item_words w.items) y 0
  unfolding market_words
  item_spot y l =
      behind (head_words w h) _ 8 (8 + y) y (head_long w h) refl
      ∙ get_or_append_left (flat_map item_words w.items) _ 0 y (omega (arith, items_long))

  pub account_spot : (y : ℕ) → y < n * (1 + k) → get_or (market_words w h) (accounts_at k + y) 0 ≡ get_or (flat_map account_words w.accounts) y 0
  unfolding market_words
  account_spot y l =
      let m = n * (1 + k) in
      behind (head_words w h) _ 8 (8 + 2 * k + y) (2 * k + y) (head_long w h) (omega arith)
      ∙ behind (flat_map item_words w.items) _ (2 * k) (2 * k + y) y items_long refl
      ∙ get_or_append_left (flat_map account_words w.accounts) _ 0 y (omega (arith, accounts_long))

  pub order_spot : (y : ℕ) → get_or (market_words w h) (orders_at k n + y) 0 ≡ get_or (flat_map order_words w.orders) y 0
  unfolding market_words
  order_spot y =
      let m = n * (1 + k) in
      behind (head_words w h) _ 8 (8 + 2 * k + m + y) (2 * k + m + y) (head_long w h) (omega arith)
      ∙ behind (flat_map item_words w.items) _ (2 * k) (2 * k + m + y) (m + y) items_long (omega arith)
      ∙ behind (flat_map account_words w.accounts) _ m (m + y) y accounts_long refl

  -- and row by row
  pub item_row : (i j : ℕ) (d : Item) → i < k → j < 2 → get_or (market_words w h) (8 + (i * 2 + j)) 0 ≡ get_or (item_words (get_or w.items i d)) j 0
  item_row i j d l g =
      let q = s.items in
      item_spot (i * 2 + j) (omega arith) ∙ get_or_joined item_words 2 w.items i j d (even_items w.items) (omega arith) g

  pub account_row :
      (a j : ℕ) (d : Account) → a < n → j < 1 + k → get_or (market_words w h) (account_at k a + j) 0 ≡ get_or (account_words (get_or w.accounts a d)) j 0
  account_row a j d l g =
      let q = s.accounts in
      let room : a * (1 + k) + j < n * (1 + k) = rows_in a n (1 + k) j l g in
      let e : account_at k a + j ≡ accounts_at k + (a * (1 + k) + j) = regroup (accounts_at k) (a * (1 + k)) j in
      ap (λ (i : ℕ). get_or (market_words w h) i 0) e ∙ account_spot (a * (1 + k) + j) room
      ∙ get_or_joined account_words (1 + k) w.accounts a j d (even_accounts k w.accounts s.wide) (omega arith) g
    where
      regroup : (x y z : ℕ) → x + y + z ≡ x + (y + z)
      regroup x y z = omega arith

  pub order_row :
      (i j : ℕ) (d : Order) → i < length w.orders → j < 6 →
      get_or (market_words w h) (orders_at k n + (i * 6 + j)) 0 ≡ get_or (order_words (get_or w.orders i d)) j 0
  order_row i j d l g = order_spot (i * 6 + j) ∙ get_or_joined order_words 6 w.orders i j d (even_orders w.orders) l g
