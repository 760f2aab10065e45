use Rattle.jwt_c_calls.proofs.NumberTexts.{algorithm_texts, test_texts}
use Rattle.jwt_c_calls.proofs.Statuses.{kind_texts}
use Rattle.jwt_c.proofs.jwt_text.Goals as goal

pub returns-in-Some-clause-kinds : goal.returns-in-Some-clause-kinds
returns-in-Some-clause-kinds c = kind_texts

pub returns-in-None-clause-kinds : goal.returns-in-None-clause-kinds
returns-in-None-clause-kinds c = kind_texts

pub returns-in-Some-clause-tests : goal.returns-in-Some-clause-tests
returns-in-Some-clause-tests c = test_texts

pub returns-in-None-clause-tests : goal.returns-in-None-clause-tests
returns-in-None-clause-tests c = test_texts

pub returns-in-Some-clause-algorithms : goal.returns-in-Some-clause-algorithms
returns-in-Some-clause-algorithms c = algorithm_texts

pub returns-in-None-clause-algorithms : goal.returns-in-None-clause-algorithms
returns-in-None-clause-algorithms c = algorithm_texts
