-- The formulas of sums as terms.
use Rattle.algebra.proofs.Terms.{Term}
use Rattle.algebra.proofs.Terms.Term.{◌⊕◌, ◌⊖◌, ◌⊗◌}

pub record Points : Type 0 where
  pub x : Term
  pub y : Term
  pub z : Term
  pub t : Term

abbrev pub e_term : Points → Points → Term
e_term P Q = (P.y ⊕ P.x) ⊗ (Q.y ⊕ Q.x) ⊖ (P.y ⊖ P.x) ⊗ (Q.y ⊖ Q.x)

abbrev pub f_term : Term → Points → Points → Term
f_term k P Q = (P.z ⊕ P.z) ⊗ Q.z ⊖ P.t ⊗ k ⊗ Q.t

abbrev pub g_term : Term → Points → Points → Term
g_term k P Q = (P.z ⊕ P.z) ⊗ Q.z ⊕ P.t ⊗ k ⊗ Q.t

abbrev pub h_term : Points → Points → Term
h_term P Q = (P.y ⊕ P.x) ⊗ (Q.y ⊕ Q.x) ⊕ (P.y ⊖ P.x) ⊗ (Q.y ⊖ Q.x)

abbrev pub product_terms : (e f g h : Term) → Points
product_terms e f g h = record { x = e ⊗ f; y = g ⊗ h; z = f ⊗ g; t = e ⊗ h }

abbrev pub sum_terms : Term → Points → Points → Points
sum_terms k P Q = product_terms (e_term P Q) (f_term k P Q) (g_term k P Q) (h_term P Q)

-- the sides of a curve's equations
abbrev pub product_left : Points → Term
product_left P = P.x ⊗ P.y

abbrev pub product_right : Points → Term
product_right P = P.t ⊗ P.z

abbrev pub equation_left : Points → Term
equation_left P = P.y ⊗ P.y

abbrev pub equation_right : Term → Points → Term
equation_right d P = P.x ⊗ P.x ⊕ P.z ⊗ P.z ⊕ d ⊗ (P.t ⊗ P.t)

-- the factors of a double's coordinates
abbrev pub double_e_term : Points → Term
double_e_term P = P.x ⊗ P.x ⊕ P.y ⊗ P.y ⊖ (P.x ⊕ P.y) ⊗ (P.x ⊕ P.y)

abbrev pub double_g_term : Points → Term
double_g_term P = P.x ⊗ P.x ⊖ P.y ⊗ P.y

abbrev pub double_f_term : Points → Term
double_f_term P = P.z ⊗ P.z ⊕ P.z ⊗ P.z ⊕ double_g_term P

abbrev pub double_h_term : Points → Term
double_h_term P = P.x ⊗ P.x ⊕ P.y ⊗ P.y

abbrev pub double_terms : Points → Points
double_terms P = product_terms (double_e_term P) (double_f_term P) (double_g_term P) (double_h_term P)
