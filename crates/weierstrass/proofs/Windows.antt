-- Multiples by numbers in bytes.
use Rattle.std.proofs.Common.{◌≡◌, ℕ, ◌*◌, ◌<◌, List, length, get_or}
use Rattle.residues.specs.Bytes.{little_endian}
use Rattle.weierstrass.specs.Weierstrass.{Point}
use Rattle.residues.proofs.Loads.{little_endian_below}
use Rattle.weierstrass.specs.Joint.{IsJoint}
use Rattle.weierstrass.specs.private_clauses.Formulas.{IsSumOf}
use Rattle.weierstrass.proofs.Multiples.{joint_is}

pub joint_from : (p b : ℕ) (u v : List ℕ) (P Q R : Point) → ((i : ℕ) → get_or u i 0 < 256) → ((i : ℕ) → get_or v i 0 < 256)
    → length u ≡ length v → IsSumOf p b (little_endian u) P (little_endian v) Q R → IsJoint p b u P v Q R
joint_from p b u v P Q R hu hv l s = record {
  alike = λ curve h k.
      rw (← l) (joint_is p b curve (8 * length u) (little_endian u) (little_endian v) P Q R h k (little_endian_below u hu)
      (rw l (little_endian_below v hv)) (s.alike curve h k));
}
