-- Identities of the complete formulas, each checked at one point. tools/certificates/weierstrass_identities writes this file.
use Rattle.std.proofs.Common.{◌≡◌, ℕ, ◌^◌, List, [], ◌∷◌, true, refl}
use Rattle.algebra.proofs.Programs.{Expr, var, num, add, sub, mul, vanish, bounded}

-- x^3 - 3 x + b, at these places
abbrev pub cubic : ℕ → ℕ → Expr
cubic x b = add (sub (mul (var x) (mul (var x) (var x))) (mul (num 3) (var x))) (var b)

-- l P + Q is l^2 (P + Q): z, y, x of the difference, from l, x1, y1, z1, x2, y2, z2, b
abbrev pub scaled : List Expr
scaled =
    mul (mul (var 0) (var 1)) (var 4) ∷
    mul (mul (var 1) (var 3)) (var 6) ∷
    mul (mul (var 2) (var 5)) (var 8) ∷
    add (mul (mul (var 3) (var 4)) (var 8)) (mul (var 7) (mul (var 3) (var 5))) ∷
    add (mul (mul (var 4) (var 5)) (var 10)) (mul (var 8) (mul (var 4) (var 7))) ∷
    add (mul (mul (var 5) (var 7)) (var 11)) (mul (var 10) (mul (var 5) (var 8))) ∷
    sub (var 1) (mul (var 13) (var 3)) ∷
    add (add (var 0) (var 0)) (var 0) ∷
    add (add (var 5) (var 5)) (var 5) ∷
    sub (sub (mul (var 16) (var 4)) (var 8)) (var 0) ∷
    add (add (var 0) (var 0)) (var 0) ∷
    sub (var 10) (var 8) ∷
    add (add (var 0) (var 0)) (var 0) ∷
    add (var 11) (var 5) ∷
    sub (var 12) (var 6) ∷
    sub (mul (var 11) (var 1)) (mul (var 9) (var 4)) ∷
    add (mul (var 1) (var 2)) (mul (var 3) (var 5)) ∷
    add (mul (var 11) (var 2)) (mul (var 13) (var 4)) ∷
    mul (var 19) (var 22) ∷
    mul (var 21) (var 24) ∷
    mul (var 23) (var 26) ∷
    add (mul (var 22) (var 26)) (mul (var 25) (var 23)) ∷
    add (mul (var 23) (var 28)) (mul (var 26) (var 25)) ∷
    add (mul (var 25) (var 29)) (mul (var 28) (var 26)) ∷
    sub (var 1) (mul (var 31) (var 3)) ∷
    add (add (var 0) (var 0)) (var 0) ∷
    add (add (var 5) (var 5)) (var 5) ∷
    sub (sub (mul (var 34) (var 4)) (var 8)) (var 0) ∷
    add (add (var 0) (var 0)) (var 0) ∷
    sub (var 10) (var 8) ∷
    add (add (var 0) (var 0)) (var 0) ∷
    add (var 11) (var 5) ∷
    sub (var 12) (var 6) ∷
    sub (mul (var 11) (var 1)) (mul (var 9) (var 4)) ∷
    add (mul (var 1) (var 2)) (mul (var 3) (var 5)) ∷
    add (mul (var 11) (var 2)) (mul (var 13) (var 4)) ∷
    sub (var 20) (mul (mul (var 36) (var 36)) (var 2)) ∷
    sub (var 20) (mul (mul (var 37) (var 37)) (var 2)) ∷
    sub (var 20) (mul (mul (var 38) (var 38)) (var 2)) ∷
    []

abbrev pub scaled_squares : List Expr
scaled_squares = []

abbrev pub scaled_point : List ℕ
scaled_point = 2 ^ 4199 ∷ 2 ^ 1957 ∷ 2 ^ 873 ∷ 2 ^ 294 ∷ 2 ^ 140 ∷ 2 ^ 69 ∷ 2 ^ 23 ∷ 2 ^ 9 ∷ []

pub scaled_vanishes : vanish 0 scaled_squares scaled 3 scaled_point ≡ true
unfolding vanish
scaled_vanishes = refl

pub scaled_bounded : bounded 0 scaled_squares scaled 3 scaled_point ≡ true
unfolding bounded
scaled_bounded = refl

-- the sum lies on the curve, from y2, y1, x2, x1, b
abbrev pub closed : List Expr
closed =
    mul (var 3) (var 2) ∷
    mul (var 2) (var 1) ∷
    mul (num 1) (num 1) ∷
    add (mul (var 6) (var 3)) (mul (var 5) (var 4)) ∷
    add (mul (var 7) (num 1)) (mul (var 6) (num 1)) ∷
    add (mul (var 6) (num 1)) (mul (var 5) (num 1)) ∷
    sub (var 1) (mul (var 10) (var 3)) ∷
    add (add (var 0) (var 0)) (var 0) ∷
    add (add (var 5) (var 5)) (var 5) ∷
    sub (sub (mul (var 13) (var 4)) (var 8)) (var 0) ∷
    add (add (var 0) (var 0)) (var 0) ∷
    sub (var 10) (var 8) ∷
    add (add (var 0) (var 0)) (var 0) ∷
    add (var 11) (var 5) ∷
    sub (var 12) (var 6) ∷
    sub (mul (var 11) (var 1)) (mul (var 9) (var 4)) ∷
    add (mul (var 1) (var 2)) (mul (var 3) (var 5)) ∷
    add (mul (var 11) (var 2)) (mul (var 13) (var 4)) ∷
    sub (mul (mul (var 1) (var 1)) (var 0))
    (add (sub (mul (mul (var 2) (var 2)) (var 2)) (mul (num 3) (mul (var 2) (mul (var 0) (var 0)))))
    (mul (var 22) (mul (var 0) (mul (var 0) (var 0))))) ∷
    []

abbrev pub closed_squares : List Expr
closed_squares = cubic 1 2 ∷ cubic 0 2 ∷ []

abbrev pub closed_point : List ℕ
closed_point = 2 ^ 1135 ∷ 2 ^ 121 ∷ 2 ^ 22 ∷ []

pub closed_vanishes : vanish 2 closed_squares closed 1 closed_point ≡ true
unfolding vanish
closed_vanishes = refl

pub closed_bounded : bounded 2 closed_squares closed 1 closed_point ≡ true
unfolding bounded
closed_bounded = refl

-- z of the sum is the y of the difference: its square is the cubic of the x there, from y2, y1, x2, x1, b
abbrev pub chord : List Expr
chord =
    mul (var 3) (var 2) ∷
    mul (var 2) (var 1) ∷
    mul (num 1) (num 1) ∷
    add (mul (var 6) (var 3)) (mul (var 5) (var 4)) ∷
    add (mul (var 7) (num 1)) (mul (var 6) (num 1)) ∷
    add (mul (var 6) (num 1)) (mul (var 5) (num 1)) ∷
    sub (var 1) (mul (var 10) (var 3)) ∷
    add (add (var 0) (var 0)) (var 0) ∷
    add (add (var 5) (var 5)) (var 5) ∷
    sub (sub (mul (var 13) (var 4)) (var 8)) (var 0) ∷
    add (add (var 0) (var 0)) (var 0) ∷
    sub (var 10) (var 8) ∷
    add (add (var 0) (var 0)) (var 0) ∷
    add (var 11) (var 5) ∷
    sub (var 12) (var 6) ∷
    sub (mul (var 11) (var 1)) (mul (var 9) (var 4)) ∷
    add (mul (var 1) (var 2)) (mul (var 3) (var 5)) ∷
    add (mul (var 11) (var 2)) (mul (var 13) (var 4)) ∷
    sub (var 20) (var 21) ∷
    mul (var 0) (var 0) ∷
    sub (mul (add (var 21) (var 20)) (add (var 21) (var 20))) (mul (add (var 23) (var 22)) (var 0)) ∷
    sub (mul (var 3) (var 3)) (add
    (sub (mul (mul (var 0) (var 0)) (var 0)) (mul (num 3) (mul (var 0) (mul (var 1) (var 1)))))
    (mul (var 25) (mul (var 1) (mul (var 1) (var 1))))) ∷
    []

abbrev pub chord_squares : List Expr
chord_squares = cubic 1 2 ∷ cubic 0 2 ∷ []

abbrev pub chord_point : List ℕ
chord_point = 2 ^ 445 ∷ 2 ^ 49 ∷ 2 ^ 14 ∷ []

pub chord_vanishes : vanish 2 chord_squares chord 1 chord_point ≡ true
unfolding vanish
chord_vanishes = refl

pub chord_bounded : bounded 2 chord_squares chord 1 chord_point ≡ true
unfolding bounded
chord_bounded = refl

-- z of the double is (2 y)^3, from y, x, b
abbrev pub tangent : List Expr
tangent =
    mul (var 1) (var 1) ∷
    mul (var 1) (var 1) ∷
    mul (num 1) (num 1) ∷
    add (mul (var 4) (var 3)) (mul (var 4) (var 3)) ∷
    add (mul (var 5) (num 1)) (mul (var 5) (num 1)) ∷
    add (mul (var 5) (num 1)) (mul (var 5) (num 1)) ∷
    sub (var 1) (mul (var 8) (var 3)) ∷
    add (add (var 0) (var 0)) (var 0) ∷
    add (add (var 5) (var 5)) (var 5) ∷
    sub (sub (mul (var 11) (var 4)) (var 8)) (var 0) ∷
    add (add (var 0) (var 0)) (var 0) ∷
    sub (var 10) (var 8) ∷
    add (add (var 0) (var 0)) (var 0) ∷
    add (var 11) (var 5) ∷
    sub (var 12) (var 6) ∷
    sub (mul (var 11) (var 1)) (mul (var 9) (var 4)) ∷
    add (mul (var 1) (var 2)) (mul (var 3) (var 5)) ∷
    add (mul (var 11) (var 2)) (mul (var 13) (var 4)) ∷
    sub (var 0) (mul (num 8) (mul (mul (var 18) (var 18)) (var 18))) ∷
    []

abbrev pub tangent_squares : List Expr
tangent_squares = cubic 0 1 ∷ []

abbrev pub tangent_point : List ℕ
tangent_point = 2 ^ 12 ∷ 2 ^ 7 ∷ []

pub tangent_vanishes : vanish 1 tangent_squares tangent 1 tangent_point ≡ true
unfolding vanish
tangent_vanishes = refl

pub tangent_bounded : bounded 1 tangent_squares tangent 1 tangent_point ≡ true
unfolding bounded
tangent_bounded = refl

-- x and z of P + (-P) are 0, and its y is that of the double, from y, x, b
abbrev pub opposite : List Expr
opposite =
    mul (var 1) (var 1) ∷
    mul (var 1) (var 1) ∷
    mul (num 1) (num 1) ∷
    add (mul (var 4) (var 3)) (mul (var 4) (var 3)) ∷
    add (mul (var 5) (num 1)) (mul (var 5) (num 1)) ∷
    add (mul (var 5) (num 1)) (mul (var 5) (num 1)) ∷
    sub (var 1) (mul (var 8) (var 3)) ∷
    add (add (var 0) (var 0)) (var 0) ∷
    add (add (var 5) (var 5)) (var 5) ∷
    sub (sub (mul (var 11) (var 4)) (var 8)) (var 0) ∷
    add (add (var 0) (var 0)) (var 0) ∷
    sub (var 10) (var 8) ∷
    add (add (var 0) (var 0)) (var 0) ∷
    add (var 11) (var 5) ∷
    sub (var 12) (var 6) ∷
    sub (mul (var 11) (var 1)) (mul (var 9) (var 4)) ∷
    add (mul (var 1) (var 2)) (mul (var 3) (var 5)) ∷
    add (mul (var 11) (var 2)) (mul (var 13) (var 4)) ∷
    mul (var 19) (var 19) ∷
    mul (var 19) (sub (num 0) (var 19)) ∷
    mul (num 1) (num 1) ∷
    add (mul (var 22) (sub (num 0) (var 21))) (mul (var 22) (var 21)) ∷
    add (mul (var 23) (num 1)) (mul (var 23) (num 1)) ∷
    add (mul (var 23) (num 1)) (mul (sub (num 0) (var 23)) (num 1)) ∷
    sub (var 1) (mul (var 26) (var 3)) ∷
    add (add (var 0) (var 0)) (var 0) ∷
    add (add (var 5) (var 5)) (var 5) ∷
    sub (sub (mul (var 29) (var 4)) (var 8)) (var 0) ∷
    add (add (var 0) (var 0)) (var 0) ∷
    sub (var 10) (var 8) ∷
    add (add (var 0) (var 0)) (var 0) ∷
    add (var 11) (var 5) ∷
    sub (var 12) (var 6) ∷
    sub (mul (var 11) (var 1)) (mul (var 9) (var 4)) ∷
    add (mul (var 1) (var 2)) (mul (var 3) (var 5)) ∷
    add (mul (var 11) (var 2)) (mul (var 13) (var 4)) ∷
    sub (mul (mul (var 1) (var 1)) (var 18))
    (add (sub (mul (mul (var 20) (var 20)) (var 20)) (mul (num 3) (mul (var 20) (mul (var 18) (var 18)))))
    (mul (var 38) (mul (var 18) (mul (var 18) (var 18))))) ∷
    sub (var 1) (num 0) ∷
    sub (var 4) (num 0) ∷
    []

abbrev pub opposite_squares : List Expr
opposite_squares = cubic 0 1 ∷ []

abbrev pub opposite_point : List ℕ
opposite_point = 2 ^ 127 ∷ 2 ^ 23 ∷ []

pub opposite_vanishes : vanish 1 opposite_squares opposite 3 opposite_point ≡ true
unfolding vanish
opposite_vanishes = refl

pub opposite_bounded : bounded 1 opposite_squares opposite 3 opposite_point ≡ true
unfolding bounded
opposite_bounded = refl

-- P and the point at infinity: z, y, x of the sum less y P, from x, y, b
abbrev pub neutral : List Expr
neutral =
    mul (var 0) (num 0) ∷
    mul (var 2) (num 1) ∷
    mul (num 1) (num 0) ∷
    add (mul (var 3) (num 1)) (mul (num 0) (var 4)) ∷
    add (mul (var 4) (num 0)) (mul (num 0) (num 1)) ∷
    add (mul (var 6) (num 0)) (mul (num 1) (num 1)) ∷
    sub (var 1) (mul (var 8) (var 3)) ∷
    add (add (var 0) (var 0)) (var 0) ∷
    add (add (var 5) (var 5)) (var 5) ∷
    sub (sub (mul (var 11) (var 4)) (var 8)) (var 0) ∷
    add (add (var 0) (var 0)) (var 0) ∷
    sub (var 10) (var 8) ∷
    add (add (var 0) (var 0)) (var 0) ∷
    add (var 11) (var 5) ∷
    sub (var 12) (var 6) ∷
    sub (mul (var 11) (var 1)) (mul (var 9) (var 4)) ∷
    add (mul (var 1) (var 2)) (mul (var 3) (var 5)) ∷
    add (mul (var 11) (var 2)) (mul (var 13) (var 4)) ∷
    sub (var 2) (mul (var 19) (var 18)) ∷
    sub (var 2) (mul (var 20) (var 20)) ∷
    sub (var 2) (var 21) ∷
    []

abbrev pub neutral_squares : List Expr
neutral_squares = []

abbrev pub neutral_point : List ℕ
neutral_point = 2 ^ 6 ∷ 2 ^ 2 ∷ 2 ^ 2 ∷ []

pub neutral_vanishes : vanish 0 neutral_squares neutral 3 neutral_point ≡ true
unfolding vanish
neutral_vanishes = refl

pub neutral_bounded : bounded 0 neutral_squares neutral 3 neutral_point ≡ true
unfolding bounded
neutral_bounded = refl

-- the point at infinity twice, from b
abbrev pub none : List Expr
none =
    mul (num 0) (num 0) ∷
    mul (num 1) (num 1) ∷
    mul (num 0) (num 0) ∷
    add (mul (num 0) (num 1)) (mul (num 0) (num 1)) ∷
    add (mul (num 0) (num 0)) (mul (num 0) (num 0)) ∷
    add (mul (num 1) (num 0)) (mul (num 1) (num 0)) ∷
    sub (var 1) (mul (var 6) (var 3)) ∷
    add (add (var 0) (var 0)) (var 0) ∷
    add (add (var 5) (var 5)) (var 5) ∷
    sub (sub (mul (var 9) (var 4)) (var 8)) (var 0) ∷
    add (add (var 0) (var 0)) (var 0) ∷
    sub (var 10) (var 8) ∷
    add (add (var 0) (var 0)) (var 0) ∷
    add (var 11) (var 5) ∷
    sub (var 12) (var 6) ∷
    sub (mul (var 11) (var 1)) (mul (var 9) (var 4)) ∷
    add (mul (var 1) (var 2)) (mul (var 3) (var 5)) ∷
    add (mul (var 11) (var 2)) (mul (var 13) (var 4)) ∷
    sub (var 2) (num 0) ∷
    sub (var 2) (num 1) ∷
    sub (var 2) (num 0) ∷
    []

abbrev pub none_squares : List Expr
none_squares = []

abbrev pub none_point : List ℕ
none_point = 2 ^ 2 ∷ []

pub none_vanishes : vanish 0 none_squares none 3 none_point ≡ true
unfolding vanish
none_vanishes = refl

pub none_bounded : bounded 0 none_squares none 3 none_point ≡ true
unfolding bounded
none_bounded = refl

-- a point of z with the inverse i: x, y, z, i, b
abbrev pub divided : List Expr
divided =
    sub (mul (var 2) (var 3)) (num 1) ∷
    sub (mul (mul (var 2) (var 2)) (var 3))
    (add (sub (mul (mul (var 1) (var 1)) (var 1)) (mul (num 3) (mul (var 1) (mul (var 3) (var 3)))))
    (mul (var 5) (mul (var 3) (mul (var 3) (var 3))))) ∷
    mul (var 2) (var 5) ∷
    mul (var 4) (var 6) ∷
    sub (mul (var 0) (var 0)) (add (sub (mul (var 1) (mul (var 1) (var 1))) (mul (num 3) (var 1))) (var 8)) ∷
    sub (add (mul (var 1) (var 1)) (mul (num 3) (mul (var 2) (add (mul (var 7) (var 8)) (num 1)))))
    (mul (var 9) (add (add (mul (mul (var 7) (var 8)) (mul (var 7) (var 8))) (mul (var 7) (var 8))) (num 1))) ∷
    sub (var 1) (sub (mul (mul (var 9) (mul (var 9) (var 9))) (var 4)) (mul (var 5) (var 0))) ∷
    []

abbrev pub divided_squares : List Expr
divided_squares = []

abbrev pub divided_point : List ℕ
divided_point = 2 ^ 374 ∷ 2 ^ 152 ∷ 2 ^ 38 ∷ 2 ^ 10 ∷ 2 ^ 6 ∷ []

pub divided_vanishes : vanish 0 divided_squares divided 1 divided_point ≡ true
unfolding vanish
divided_vanishes = refl

pub divided_bounded : bounded 0 divided_squares divided 1 divided_point ≡ true
unfolding bounded
divided_bounded = refl

-- a root n / d of the cubic, where i is the inverse of d, from n, d, i, b
abbrev pub ratio : List Expr
ratio =
    sub (mul (var 1) (var 2)) (num 1) ∷
    add (sub (mul (mul (var 1) (var 1)) (var 1)) (mul (num 3) (mul (var 1) (mul (var 2) (var 2)))))
    (mul (var 4) (mul (var 2) (mul (var 2) (var 2)))) ∷
    mul (var 2) (var 4) ∷
    add (sub (mul (var 0) (mul (var 0) (var 0))) (mul (num 3) (var 0))) (var 6) ∷
    sub (mul (num 3) (mul (var 1) (add (mul (var 5) (var 6)) (num 1))))
    (mul (var 7) (add (add (mul (mul (var 5) (var 6)) (mul (var 5) (var 6))) (mul (var 5) (var 6))) (num 1))) ∷
    sub (var 1) (add (mul (mul (var 7) (mul (var 7) (var 7))) (var 3)) (mul (var 4) (var 0))) ∷
    []

abbrev pub ratio_squares : List Expr
ratio_squares = []

abbrev pub ratio_point : List ℕ
ratio_point = 2 ^ 136 ∷ 2 ^ 34 ∷ 2 ^ 9 ∷ 2 ^ 5 ∷ []

pub ratio_vanishes : vanish 0 ratio_squares ratio 1 ratio_point ≡ true
unfolding vanish
ratio_vanishes = refl

pub ratio_bounded : bounded 0 ratio_squares ratio 1 ratio_point ≡ true
unfolding bounded
ratio_bounded = refl

-- the sum of points of different x is the third point of the line with the slope l, from y2, y1, x2, x1, l, b: y and x
abbrev pub secant : List Expr
secant =
    mul (var 3) (var 2) ∷
    mul (var 2) (var 1) ∷
    mul (num 1) (num 1) ∷
    add (mul (var 6) (var 3)) (mul (var 5) (var 4)) ∷
    add (mul (var 7) (num 1)) (mul (var 6) (num 1)) ∷
    add (mul (var 6) (num 1)) (mul (var 5) (num 1)) ∷
    sub (var 1) (mul (var 11) (var 3)) ∷
    add (add (var 0) (var 0)) (var 0) ∷
    add (add (var 5) (var 5)) (var 5) ∷
    sub (sub (mul (var 14) (var 4)) (var 8)) (var 0) ∷
    add (add (var 0) (var 0)) (var 0) ∷
    sub (var 10) (var 8) ∷
    add (add (var 0) (var 0)) (var 0) ∷
    add (var 11) (var 5) ∷
    sub (var 12) (var 6) ∷
    sub (mul (var 11) (var 1)) (mul (var 9) (var 4)) ∷
    add (mul (var 1) (var 2)) (mul (var 3) (var 5)) ∷
    add (mul (var 11) (var 2)) (mul (var 13) (var 4)) ∷
    sub (var 20) (var 21) ∷
    sub (var 19) (var 20) ∷
    sub (mul (var 24) (var 1)) (var 0) ∷
    sub (sub (mul (var 25) (var 25)) (var 24)) (var 23) ∷
    sub (mul (var 26) (sub (var 25) (var 0))) (var 23) ∷
    mul (var 4) (var 4) ∷
    add (mul (var 28) (var 5)) (var 4) ∷
    sub (mul (var 1) (sub (var 9) (mul (var 3) (var 7)))) (mul (sub (num 0) (var 4)) (mul (var 0) (var 7))) ∷
    sub (mul (mul (var 2) (var 7)) (sub (var 9) (mul (var 3) (var 8))))
    (mul (var 5) (mul (sub (mul (var 6) (var 1)) (mul (var 2) (sub (var 29) (var 4)))) (var 8))) ∷
    []

abbrev pub secant_squares : List Expr
secant_squares = cubic 1 3 ∷ cubic 0 3 ∷ []

abbrev pub secant_point : List ℕ
secant_point = 2 ^ 1206 ∷ 2 ^ 165 ∷ 2 ^ 48 ∷ 2 ^ 14 ∷ []

pub secant_vanishes : vanish 2 secant_squares secant 2 secant_point ≡ true
unfolding vanish
secant_vanishes = refl

pub secant_bounded : bounded 2 secant_squares secant 2 secant_point ≡ true
unfolding bounded
secant_bounded = refl

-- twice a point is the third point of the tangent with the slope l, from y, x, l, b: y and x
abbrev pub touch : List Expr
touch =
    mul (var 1) (var 1) ∷
    mul (var 1) (var 1) ∷
    mul (num 1) (num 1) ∷
    add (mul (var 4) (var 3)) (mul (var 4) (var 3)) ∷
    add (mul (var 5) (num 1)) (mul (var 5) (num 1)) ∷
    add (mul (var 5) (num 1)) (mul (var 5) (num 1)) ∷
    sub (var 1) (mul (var 9) (var 3)) ∷
    add (add (var 0) (var 0)) (var 0) ∷
    add (add (var 5) (var 5)) (var 5) ∷
    sub (sub (mul (var 12) (var 4)) (var 8)) (var 0) ∷
    add (add (var 0) (var 0)) (var 0) ∷
    sub (var 10) (var 8) ∷
    add (add (var 0) (var 0)) (var 0) ∷
    add (var 11) (var 5) ∷
    sub (var 12) (var 6) ∷
    sub (mul (var 11) (var 1)) (mul (var 9) (var 4)) ∷
    add (mul (var 1) (var 2)) (mul (var 3) (var 5)) ∷
    add (mul (var 11) (var 2)) (mul (var 13) (var 4)) ∷
    mul (num 2) (var 18) ∷
    sub (mul (num 3) (mul (var 20) (var 20))) (num 3) ∷
    sub (mul (var 22) (var 1)) (var 0) ∷
    sub (sub (mul (var 23) (var 23)) (var 22)) (var 22) ∷
    sub (mul (var 24) (sub (var 23) (var 0))) (var 22) ∷
    mul (var 4) (var 4) ∷
    add (mul (var 26) (var 5)) (var 4) ∷
    sub (mul (var 1) (sub (var 9) (mul (var 3) (var 7)))) (mul (sub (num 0) (var 4)) (mul (var 0) (var 7))) ∷
    sub (mul (mul (var 2) (var 7)) (sub (var 9) (mul (var 3) (var 8))))
    (mul (var 5) (mul (sub (mul (var 6) (var 1)) (mul (var 2) (sub (var 27) (var 4)))) (var 8))) ∷
    []

abbrev pub touch_squares : List Expr
touch_squares = cubic 0 2 ∷ []

abbrev pub touch_point : List ℕ
touch_point = 2 ^ 242 ∷ 2 ^ 61 ∷ 2 ^ 17 ∷ []

pub touch_vanishes : vanish 1 touch_squares touch 2 touch_point ≡ true
unfolding vanish
touch_vanishes = refl

pub touch_bounded : bounded 1 touch_squares touch 2 touch_point ≡ true
unfolding bounded
touch_bounded = refl

-- twice (l^2 x, l^3 y, l): x, y and z, from y, x, l, b
abbrev pub jacobian_double : List Expr
jacobian_double =
    mul (var 1) (var 1) ∷
    mul (var 1) (var 1) ∷
    mul (num 1) (num 1) ∷
    add (mul (var 4) (var 3)) (mul (var 4) (var 3)) ∷
    add (mul (var 5) (num 1)) (mul (var 5) (num 1)) ∷
    add (mul (var 5) (num 1)) (mul (var 5) (num 1)) ∷
    sub (var 1) (mul (var 9) (var 3)) ∷
    add (add (var 0) (var 0)) (var 0) ∷
    add (add (var 5) (var 5)) (var 5) ∷
    sub (sub (mul (var 12) (var 4)) (var 8)) (var 0) ∷
    add (add (var 0) (var 0)) (var 0) ∷
    sub (var 10) (var 8) ∷
    add (add (var 0) (var 0)) (var 0) ∷
    add (var 11) (var 5) ∷
    sub (var 12) (var 6) ∷
    sub (mul (var 11) (var 1)) (mul (var 9) (var 4)) ∷
    add (mul (var 1) (var 2)) (mul (var 3) (var 5)) ∷
    add (mul (var 11) (var 2)) (mul (var 13) (var 4)) ∷
    mul (mul (var 20) (var 20)) (var 19) ∷
    mul (mul (mul (var 21) (var 21)) (var 21)) (var 19) ∷
    mul (var 22) (var 22) ∷
    mul (var 1) (var 1) ∷
    mul (var 3) (var 0) ∷
    mul (sub (var 4) (var 2)) (add (var 4) (var 2)) ∷
    add (add (var 0) (var 0)) (var 0) ∷
    add (var 2) (var 2) ∷
    add (var 0) (var 0) ∷
    add (var 0) (var 0) ∷
    sub (mul (var 3) (var 3)) (var 0) ∷
    mul (var 9) (var 31) ∷
    mul (var 8) (var 8) ∷
    add (var 0) (var 0) ∷
    add (var 0) (var 0) ∷
    add (var 0) (var 0) ∷
    sub (mul (var 9) (sub (var 7) (var 5))) (var 0) ∷
    add (var 5) (var 5) ∷
    mul (var 0) (var 0) ∷
    sub (var 1) (mul (mul (num 2) (mul (mul (mul (var 39) (var 39)) (var 39)) (var 37))) (var 39)) ∷
    sub (mul (var 3) (var 20)) (mul (mul (var 1) (var 2)) (var 21)) ∷
    sub (mul (var 10) (var 21)) (mul (var 2) (var 23)) ∷
    []

abbrev pub jacobian_double_squares : List Expr
jacobian_double_squares = cubic 0 2 ∷ []

abbrev pub jacobian_double_point : List ℕ
jacobian_double_point = 2 ^ 767 ∷ 2 ^ 59 ∷ 2 ^ 17 ∷ []

pub jacobian_double_vanishes : vanish 1 jacobian_double_squares jacobian_double 3 jacobian_double_point ≡ true
unfolding vanish
jacobian_double_vanishes = refl

pub jacobian_double_bounded : bounded 1 jacobian_double_squares jacobian_double 3 jacobian_double_point ≡ true
unfolding bounded
jacobian_double_bounded = refl

-- the sum of (l^2 x1, l^3 y1, l) and (m^2 x2, m^3 y2, m): x, y, z, h, r, from y2, y1, l, m, x2, x1, b
abbrev pub jacobian_add : List Expr
jacobian_add =
    mul (var 5) (var 4) ∷
    mul (var 2) (var 1) ∷
    mul (num 1) (num 1) ∷
    add (mul (var 8) (var 3)) (mul (var 7) (var 4)) ∷
    add (mul (var 9) (num 1)) (mul (var 8) (num 1)) ∷
    add (mul (var 6) (num 1)) (mul (var 5) (num 1)) ∷
    sub (var 1) (mul (var 12) (var 3)) ∷
    add (add (var 0) (var 0)) (var 0) ∷
    add (add (var 5) (var 5)) (var 5) ∷
    sub (sub (mul (var 15) (var 4)) (var 8)) (var 0) ∷
    add (add (var 0) (var 0)) (var 0) ∷
    sub (var 10) (var 8) ∷
    add (add (var 0) (var 0)) (var 0) ∷
    add (var 11) (var 5) ∷
    sub (var 12) (var 6) ∷
    sub (mul (var 11) (var 1)) (mul (var 9) (var 4)) ∷
    add (mul (var 1) (var 2)) (mul (var 3) (var 5)) ∷
    add (mul (var 11) (var 2)) (mul (var 13) (var 4)) ∷
    mul (mul (var 20) (var 20)) (var 23) ∷
    mul (mul (mul (var 21) (var 21)) (var 21)) (var 20) ∷
    mul (mul (var 23) (var 23)) (var 24) ∷
    mul (mul (mul (var 24) (var 24)) (var 24)) (var 21) ∷
    mul (var 24) (var 24) ∷
    mul (var 26) (var 26) ∷
    mul (var 5) (var 0) ∷
    mul (var 4) (var 2) ∷
    mul (var 6) (mul (var 29) (var 2)) ∷
    mul (var 5) (mul (var 29) (var 4)) ∷
    sub (var 2) (var 3) ∷
    sub (var 1) (var 2) ∷
    mul (var 1) (var 1) ∷
    mul (var 2) (var 0) ∷
    mul (var 7) (var 1) ∷
    sub (sub (mul (var 3) (var 3)) (var 1)) (add (var 0) (var 0)) ∷
    sub (mul (var 4) (sub (var 1) (var 0))) (mul (var 7) (var 2)) ∷
    mul (mul (var 37) (var 38)) (var 6) ∷
    mul (var 0) (var 0) ∷
    mul (var 39) (var 40) ∷
    mul (var 0) (var 0) ∷
    sub (var 9) (mul (mul (var 0) (var 1)) (sub (var 39) (var 40))) ∷
    sub (var 11) (mul (var 1) (sub (var 44) (var 45))) ∷
    sub (var 5) (mul (var 3) (var 12)) ∷
    sub (mul (var 7) (var 24)) (mul (mul (var 5) (var 6)) (var 25)) ∷
    sub (mul (var 9) (var 25)) (mul (var 6) (var 27)) ∷
    []

abbrev pub jacobian_add_squares : List Expr
jacobian_add_squares = cubic 3 4 ∷ cubic 2 4 ∷ []

abbrev pub jacobian_add_point : List ℕ
jacobian_add_point = 2 ^ 24930 ∷ 2 ^ 2493 ∷ 2 ^ 342 ∷ 2 ^ 48 ∷ 2 ^ 14 ∷ []

pub jacobian_add_vanishes : vanish 2 jacobian_add_squares jacobian_add 5 jacobian_add_point ≡ true
unfolding vanish
jacobian_add_vanishes = refl

pub jacobian_add_bounded : bounded 2 jacobian_add_squares jacobian_add 5 jacobian_add_point ≡ true
unfolding bounded
jacobian_add_bounded = refl
