use Rattle.jwt_key_files.proofs.Certificates.{no_whole_certificate, no_content, no_signature, more_signed, no_key_info}
use Rattle.jwt_key_files.proofs.Certificates.{a_certificate}
use Rattle.jwt_key_files.proofs.certificate.read_certificate.Goals as goal

pub returns-in_default : goal.returns-in_default
returns-in_default c = no_whole_certificate _ c.in_default.ensures

pub returns-in_default-read : goal.returns-in_default-read
returns-in_default-read c = no_content _ _ c.in-Some.ensures c.in_default-read.ensures

pub returns-in_default-skip : goal.returns-in_default-skip
returns-in_default-skip c = no_signature _ _ _ _ c.in-Some.ensures c.in-Some-read.ensures c.in_default-skip.ensures

pub returns-then-end-gt0 : goal.returns-then-end-gt0
returns-then-end-gt0 c = more_signed _ _ _ _ _ c.in-Some.ensures c.in-Some-read.ensures c.in-Some-skip.ensures c.if-end-gt0.true

pub returns-in_default-key_info : goal.returns-in_default-key_info
returns-in_default-key_info c = no_key_info _ _ _ _ c.in-Some.ensures c.in-Some-read.ensures c.in_default-key_info.ensures

pub returns : goal.returns
returns c = a_certificate _ _ _ _ _ _ c.in-Some.ensures c.in-Some-read.ensures c.in-Some-skip.ensures c.if-end-gt0.false
    c.in-Some-key_info.ensures
