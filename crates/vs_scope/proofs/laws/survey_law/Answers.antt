use Rattle.vs_scope.proofs.SurveyParts.{survey_parts}
use Rattle.vs_scope.proofs.laws.survey_law.Goals as goal

pub returns : goal.returns
returns c = survey_parts
