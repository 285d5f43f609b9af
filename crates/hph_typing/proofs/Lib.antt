pub mod AssignedVariables
