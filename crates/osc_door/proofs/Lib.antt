pub mod SaidFronts
